-- What the values of the code mean.
use Rattle.std.specs.Prelude.{◌≡◌, ℕ, ◌<◌, List, ◌++◌, Ok, Err, Result, codes, decimal}
use Rattle.model.specs.Verifier as verifier
use Rattle.model.specs.Monitor as monitor
use Rattle.reader.specs.Meaning.{value_of, record_of, timestamp_of, MerklePart}
use Rattle.wire.specs.declared.parts.Entry.{Entry}
use Rattle.wire.specs.declared.parts.Entry.TheVariants.{AddMerkle, AddBlum, EvictMerkle, EvictBlum, EvictBlumMerkle, NextEpoch, VerifyEpoch, Get, Set}
use Rattle.wire.specs.declared.parts.Event.{Event}
use Rattle.wire.specs.declared.parts.Malformed.{Malformed}
use Rattle.wire.specs.declared.parts.Refusal.{Refusal}
use Rattle.wire.specs.declared.parts.Refusal.TheVariants as refusals
use Rattle.wire.specs.declared.parts.Answer.{Answer}
use Rattle.wire.specs.declared.parts.Answer.TheVariants.{Refused, Wrong, Right, Certified}

abbrev pub entry_of : Entry → verifier.Entry
entry_of (AddMerkle r q) = verifier.add_merkle (record_of r) q.now
entry_of (AddBlum r m j x) = verifier.add_blum (record_of r) (timestamp_of m) j
entry_of (EvictMerkle p q) = verifier.evict_merkle p.now q.now
entry_of (EvictBlum p m) = verifier.evict_blum p.now (timestamp_of m)
entry_of (EvictBlumMerkle p q m) = verifier.evict_blum_merkle p.now q.now (timestamp_of m)
entry_of NextEpoch = verifier.next_epoch
entry_of VerifyEpoch = verifier.verify_epoch
entry_of (Get k t) = verifier.get k.now (value_of t)
entry_of (Set k t) = verifier.set k.now t.now

abbrev pub logged_of : Event → monitor.Event
logged_of e = monitor.logged e.verifier (entry_of e.entry)

-- what bytes are: an event, or malformed
abbrev pub event_of : Result Event Malformed → monitor.Event
event_of (Ok e) = logged_of e
event_of (Err m) = monitor.malformed m.at

-- the number of a refusal in the model's list
abbrev pub refusal_code : Refusal → ℕ
refusal_code refusals.Malformed = 1
refusal_code refusals.OutOfRange = 2
refusal_code refusals.Stopped = 3
refusal_code refusals.Full = 4
refusal_code refusals.TooFarAhead = 5

abbrev pub answer_of : Answer → monitor.Answer
answer_of (Refused c p) = monitor.refused c p
answer_of Wrong = monitor.wrong
answer_of Right = monitor.right
answer_of (Certified n) = monitor.certified n

-- the text of an answer
abbrev pub answer_text : Answer → List ℕ
answer_text (Refused n place) = codes "refused " ++ (decimal n ++ (codes " " ++ decimal place))
answer_text Wrong = codes "wrong"
answer_text Right = codes "right"
answer_text (Certified n) = codes "certified " ++ decimal n

-- the parts of the input that an entry hands out are what its record's Merkle hash and its element's hash are taken over
abbrev pub EntryParts : Entry → Type 0
EntryParts (AddMerkle r q) = MerklePart r
EntryParts (AddBlum r m j x) = MerklePart r × (j < 256 → x.now ≡ monitor.element_bytes (record { rec = record_of r; timestamp = timestamp_of m; verifier = j }))
EntryParts (EvictMerkle p q) = Unit {0}
EntryParts (EvictBlum p m) = Unit {0}
EntryParts (EvictBlumMerkle p q m) = Unit {0}
EntryParts NextEpoch = Unit {0}
EntryParts VerifyEpoch = Unit {0}
EntryParts (Get k t) = Unit {0}
EntryParts (Set k t) = Unit {0}

abbrev pub EventParts : Result Event Malformed → Type 0
EventParts (Ok e) = EntryParts e.entry
EventParts (Err m) = Unit {0}
