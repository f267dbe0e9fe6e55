-- Events and answers as bytes, what bytes are read as, and the laws of both. Assumes nothing: these are definitions, and types whose proofs are
-- owed to them; crate `wire_laws` has the proofs.
use Rattle.std.specs.Prelude.{◌≡◌, ℕ, ◌+◌, ◌-◌, ◌≤◌, Bool, true, cond, ◌&&◌, ltb, ◌⊎◌, [], ◌∷◌, ◌++◌, length, take, drop, Some, None, Option, ◌==◌, nat_eq, nat_le, nat_lt}
use Rattle.model.specs.Records.{Bytes, Pointer, absent, present, Value, Record, data_record, node, le_bytes, le_number, sized_bytes, value_bytes, record_bytes}
use Rattle.model.specs.Verifier.{Timestamp, Entry, add_merkle, add_blum, evict_merkle, evict_blum, evict_blum_merkle, next_epoch, verify_epoch, get, set}
use Rattle.model.specs.Monitor.{Event, logged, malformed, Answer, refused, wrong, right, certified, entry_code}
use Rattle.model.specs.Readable.{all_below, fits_64, readable}

-- ---- what is written

abbrev pub timestamp_bytes : Timestamp → Bytes
timestamp_bytes m = le_bytes 8 m.epoch ++ le_bytes 8 m.counter

unfoldable pub fields_bytes : Entry → Bytes
fields_bytes (add_merkle r q) = record_bytes r ++ sized_bytes q
fields_bytes (add_blum r m j) = record_bytes r ++ (timestamp_bytes m ++ le_bytes 8 j)
fields_bytes (evict_merkle p q) = sized_bytes p ++ sized_bytes q
fields_bytes (evict_blum p m) = sized_bytes p ++ timestamp_bytes m
fields_bytes (evict_blum_merkle p q m) = sized_bytes p ++ (sized_bytes q ++ timestamp_bytes m)
fields_bytes next_epoch = []
fields_bytes verify_epoch = []
fields_bytes (get k v) = sized_bytes k ++ value_bytes v
fields_bytes (set k v) = sized_bytes k ++ sized_bytes v

unfoldable pub entry_bytes : Entry → Bytes
entry_bytes e = entry_code e ∷ fields_bytes e

-- a verifier, and its next entry
unfoldable pub event_bytes : ℕ → Entry → Bytes
event_bytes t e = le_bytes 8 t ++ entry_bytes e

abbrev pub answer_bytes : Answer → Bytes
answer_bytes (refused c p) = 0 ∷ (c ∷ le_bytes 8 p)
answer_bytes wrong = 1 ∷ []
answer_bytes right = 2 ∷ []
answer_bytes (certified n) = 3 ∷ le_bytes 8 n

-- each number of an answer fits its field
abbrev pub readable_answer : Answer → Bool
readable_answer (refused c p) = nat_lt c 256 && fits_64 p
readable_answer wrong = true
readable_answer right = true
readable_answer (certified n) = fits_64 n

-- ---- what is read

-- a value and the bytes after it; or the bytes from the first that no value has there
pub data Got (A : Type 0) : Type 0 where
  got : A → Bytes → Got A
  stop : Bytes → Got A

abbrev pub Reads : Type 0 → Type 0
Reads A = Bytes → Got A

abbrev pub and_then : {A B : Type 0} → Got A → (A → Reads B) → Got B
and_then (got a bs) f = f a bs
and_then (stop bs) f = stop bs

-- n bytes; cut short, they stop at the end
unfoldable pub reads_chunk : ℕ → Reads Bytes
reads_chunk n bs = cond (nat_le n (length bs)) (got (take n bs) (drop n bs)) (stop [])

-- a number in n bytes
unfoldable pub reads_number : ℕ → Reads ℕ
reads_number n bs = and_then (reads_chunk n bs) (λ ds zs. got (le_number ds) zs)

-- a byte that is fit
unfoldable pub reads_one : (ℕ → Bool) → Reads ℕ
reads_one fit [] = stop []
reads_one fit (b ∷ bs) = cond (fit b) (got b bs) (stop (b ∷ bs))

-- a byte below n
unfoldable pub reads_tag : ℕ → Reads ℕ
reads_tag n = reads_one (λ b. ltb b n)

-- the byte n
unfoldable pub reads_just : ℕ → Reads ℕ
reads_just n = reads_one (λ b. nat_eq b n)

-- a path, a key or a text, after its length in two bytes
unfoldable pub reads_sized : Reads Bytes
reads_sized bs = and_then (reads_number 2 bs) reads_chunk

abbrev pub reads_value : Reads Value
reads_value bs = and_then (reads_tag 2 bs) (λ t xs. cond (t == 0) (got None xs) (and_then (reads_sized xs) (λ v zs. got (Some v) zs)))

abbrev pub reads_pointer : Reads Pointer
reads_pointer bs =
    and_then (reads_tag 2 bs) (λ t xs. cond (t == 0) (got absent xs)
    (and_then (reads_tag 2 xs) (λ b cs. and_then (reads_sized cs) (λ p ds. and_then (reads_number 32 ds) (λ h zs. got (present p h (b == 1)) zs)))))

-- a record, from its kind's second mention on: a key's value, or a node's children
abbrev pub reads_contents : ℕ → Bytes → Reads Record
reads_contents t n bs =
    cond (t == 0) (and_then (reads_value bs) (λ v zs. got (data_record n v) zs))
    (and_then (reads_pointer bs) (λ l es. and_then (reads_pointer es) (λ r zs. got (node n (record { left = l; right = r })) zs)))

abbrev pub reads_record : Reads Record
reads_record bs = and_then (reads_tag 2 bs) (λ t xs. and_then (reads_sized xs) (λ n cs. and_then (reads_just t cs) (λ _ ds. reads_contents t n ds)))

abbrev pub reads_timestamp : Reads Timestamp
reads_timestamp bs = and_then (reads_number 8 bs) (λ e xs. and_then (reads_number 8 xs) (λ c zs. got (record { epoch = e; counter = c }) zs))

abbrev pub reads_add_merkle : Reads Entry
reads_add_merkle bs = and_then (reads_record bs) (λ r xs. and_then (reads_sized xs) (λ q zs. got (add_merkle r q) zs))

abbrev pub reads_add_blum : Reads Entry
reads_add_blum bs = and_then (reads_record bs) (λ r xs. and_then (reads_timestamp xs) (λ m cs. and_then (reads_number 8 cs) (λ j zs. got (add_blum r m j) zs)))

abbrev pub reads_evict_merkle : Reads Entry
reads_evict_merkle bs = and_then (reads_sized bs) (λ p xs. and_then (reads_sized xs) (λ q zs. got (evict_merkle p q) zs))

abbrev pub reads_evict_blum : Reads Entry
reads_evict_blum bs = and_then (reads_sized bs) (λ p xs. and_then (reads_timestamp xs) (λ m zs. got (evict_blum p m) zs))

abbrev pub reads_evict_blum_merkle : Reads Entry
reads_evict_blum_merkle bs = and_then (reads_sized bs) (λ p xs. and_then (reads_sized xs) (λ q cs. and_then (reads_timestamp cs) (λ m zs. got (evict_blum_merkle p q m) zs)))

abbrev pub reads_get : Reads Entry
reads_get bs = and_then (reads_sized bs) (λ k xs. and_then (reads_value xs) (λ v zs. got (get k v) zs))

abbrev pub reads_set : Reads Entry
reads_set bs = and_then (reads_sized bs) (λ k xs. and_then (reads_sized xs) (λ v zs. got (set k v) zs))

-- the fields of the entry with the code n
abbrev pub reads_fields : ℕ → Reads Entry
reads_fields n bs =
    cond (n == 0) (reads_add_merkle bs) (cond (n == 1) (reads_add_blum bs) (cond (n == 2) (reads_evict_merkle bs)
    (cond (n == 3) (reads_evict_blum bs) (cond (n == 4) (reads_evict_blum_merkle bs) (cond (n == 5) (got next_epoch bs)
    (cond (n == 6) (got verify_epoch bs) (cond (n == 7) (reads_get bs) (reads_set bs))))))))

abbrev pub reads_entry : Reads Entry
reads_entry bs = and_then (reads_tag 9 bs) reads_fields

abbrev pub reads_event : Reads Event
reads_event bs = and_then (reads_number 8 bs) (λ t xs. and_then (reads_entry xs) (λ e zs. got (logged t e) zs))

-- of n bytes: the event that they are, or how many are before the first that no event has there
unfoldable pub whole : ℕ → Got Event → Event
whole n (got e []) = e
whole n (got e (b ∷ bs)) = malformed (n - length (b ∷ bs))
whole n (stop bs) = malformed (n - length bs)

abbrev pub read : Bytes → Event
read bs = whole (length bs) (reads_event bs)

-- what follows the number of an answer's kind
abbrev pub reads_answer_fields : ℕ → Reads Answer
reads_answer_fields t bs =
    cond (t == 0) (and_then (reads_tag 256 bs) (λ c xs. and_then (reads_number 8 xs) (λ p zs. got (refused c p) zs)))
    (cond (t == 1) (got wrong bs) (cond (t == 2) (got right bs) (and_then (reads_number 8 bs) (λ n zs. got (certified n) zs))))

abbrev pub reads_answer : Reads Answer
reads_answer bs = and_then (reads_tag 4 bs) reads_answer_fields

-- what is read, if nothing follows it
unfoldable pub alone : {A : Type 0} → Got A → Option A
alone (got a []) = Some a
alone (got a (b ∷ bs)) = None
alone (stop bs) = None

abbrev pub read_answer : Bytes → Option Answer
read_answer bs = alone (reads_answer bs)

-- ---- the laws

-- what was written is read back
unfoldable pub EventsReadBack : Type 0
EventsReadBack = (t : ℕ) (e : Entry) → readable (logged t e) ≡ true → read (event_bytes t e) ≡ logged t e

-- what is read was written, so no event has two spellings, and it is readable
unfoldable pub EventsReadExactly : Type 0
EventsReadExactly =
    (bs : Bytes) (t : ℕ) (e : Entry) → all_below 256 bs ≡ true → read bs ≡ logged t e → (event_bytes t e ≡ bs) × (readable (logged t e) ≡ true)

-- some event's bytes begin so
pub record BeginsEvent (bs : Bytes) : Type 0 where
  pub verifier : ℕ
  pub entry : Entry
  pub more : Bytes
  pub fits : readable (logged verifier entry) ≡ true
  pub is : event_bytes verifier entry ≡ bs ++ more

-- bytes that are no event are malformed at the end of the longest part at their front that begins some event
unfoldable pub MalformedThere : Type 0
MalformedThere =
    (bs : Bytes) (n : ℕ) → all_below 256 bs ≡ true → read bs ≡ malformed n →
    (n ≤ length bs) × BeginsEvent (take n bs) × ((n ≡ length bs) ⊎ (BeginsEvent (take (n + 1) bs) → ⊥))

-- an AddMerkle of a node with the longest paths
abbrev pub longest_event : ℕ
longest_event = 262227

-- of longer bytes, one more than the longest event has tell what all of them are
unfoldable pub FirstBytesTell : Type 0
FirstBytesTell = (bs : Bytes) → all_below 256 bs ≡ true → read (take (longest_event + 1) bs) ≡ read bs

unfoldable pub AnswersReadBack : Type 0
AnswersReadBack = (a : Answer) → readable_answer a ≡ true → read_answer (answer_bytes a) ≡ Some a

unfoldable pub AnswersReadExactly : Type 0
AnswersReadExactly = (bs : Bytes) (a : Answer) → all_below 256 bs ≡ true → read_answer bs ≡ Some a → (answer_bytes a ≡ bs) × (readable_answer a ≡ true)
