-- Two verifiers at work, as logs that are computed: so no promise holds for want of a log, and each rule is seen to bite.
-- The key d has a path that begins 000, and b one that begins 001. Logs have the last event first.
use Rattle.std.specs.Prelude.{◌≡◌, ℕ, List, [], ◌∷◌, length, replicate, Some, None}
use Rattle.model.specs.Records.{Bytes, Path, key_path, no_children, data_record, node}
use Rattle.model.specs.Verifier.{Timestamp, add_merkle, add_blum, evict_merkle, evict_blum, evict_blum_merkle, next_epoch, verify_epoch, get, set}
use Rattle.model.specs.Monitor.{Limits, Event, logged, Answer, wrong, right, certified, verifier_at, answer, state}
use Rattle.model.specs.Order.{all_entries}

abbrev pub limits : Limits
limits = record { supports = all_entries; verifiers = 2; places = 4; epochs = 2; secret = replicate 32 7 }

abbrev pub b : Bytes
b = 98 ∷ []

abbrev pub d : Bytes
d = 100 ∷ []

abbrev pub x : Bytes
x = 120 ∷ []

abbrev pub y : Bytes
y = 121 ∷ []

abbrev pub above_both : Path
above_both = 0 ∷ 0 ∷ []

abbrev pub at : ℕ → ℕ → Timestamp
at e c = record { epoch = e; counter = c }

-- verifier 0 adds d and sets it
abbrev pub one_key : List Event
one_key = logged 0 (set d x) ∷ logged 0 (add_merkle (data_record d None) []) ∷ []

-- it adds a node over d, and b below that
abbrev pub two_keys : List Event
two_keys = logged 0 (add_merkle (data_record b None) above_both) ∷ logged 0 (add_merkle (node above_both no_children) []) ∷ one_key

-- d goes by Blum to verifier 1
abbrev pub handed_over : List Event
handed_over = logged 1 (add_blum (data_record d (Some x)) (at 0 1) 0) ∷ logged 0 (evict_blum_merkle (key_path d) [] (at 0 1)) ∷ one_key

-- which gets it, sets it and evicts it; both are then in epoch 1
abbrev pub given_back : List Event
given_back =
    logged 1 next_epoch ∷ logged 0 next_epoch ∷ logged 1 (evict_blum (key_path d) (at 0 2)) ∷ logged 1 (set d y) ∷ logged 1 (get d (Some x)) ∷ handed_over

-- verifier 0 adds it again, with the value that it is told, and is done with epoch 0
abbrev pub one_done : Bytes → List Event
one_done v = logged 0 verify_epoch ∷ logged 0 (add_blum (data_record d (Some v)) (at 0 2) 1) ∷ given_back

abbrev pub said : List Event → Event → Answer
said es e = answer limits (state limits es) e

pub record TwoVerifiers : Type 0 where
  -- the root knows d on that side, and d isn't below b
  pub not_below : said one_key (logged 0 (add_merkle (data_record b None) [])) ≡ wrong
  -- the node over d and b is not evicted while they are in the store by Merkle
  pub children_here : said two_keys (logged 0 (evict_merkle above_both [])) ≡ wrong
  -- the AddBlum moves verifier 1's clock past the timestamp that it names
  pub clock_moves : (verifier_at (state limits handed_over).verifiers 1).clock ≡ at 0 2
  -- verifier 1 gets what verifier 0 set
  pub gets : said handed_over (logged 1 (get d (Some x))) ≡ right
  -- nothing is certified before all are done
  pub not_yet : (state limits (one_done y)).certified ≡ 0
  -- then epoch 0 is, in which two elements were added and evicted
  pub honest : said (one_done y) (logged 1 verify_epoch) ≡ certified 1
  pub elements : (length (state limits (one_done y)).adds ≡ 2) × (length (state limits (one_done y)).evicts ≡ 2)
  -- an old value put back is found when all are done
  pub stale : said (one_done x) (logged 1 verify_epoch) ≡ wrong
  -- nothing is added into an epoch that a verifier is done with
  pub done_with : said (logged 0 verify_epoch ∷ given_back) (logged 0 (add_blum (data_record d (Some y)) (at 0 2) 1)) ≡ wrong
