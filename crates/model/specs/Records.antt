-- Bytes, paths, child pointers and records, and what of them is hashed. Assumes nothing: these are definitions.
use Rattle.std.specs.Prelude.{ℕ, zero, suc, ◌+◌, ◌*◌, ◌/◌, ◌%◌, Bool, true, false, ◌&&◌, ◌||◌, List, [], ◌∷◌, ◌++◌, length, Some, None, Option, ◌==◌, nat_lt}
use Rattle.model.specs.Sha256.{sha256}

-- the first if the test holds, else the second
unfoldable pub pick : {A : Type 0} → Bool → A → A → A
pick true a b = a
pick false a b = b

abbrev pub Bytes : Type 0
Bytes = List ℕ

unfoldable pub same_bytes : Bytes → Bytes → Bool
same_bytes [] [] = true
same_bytes [] (y ∷ ys) = false
same_bytes (x ∷ xs) [] = false
same_bytes (x ∷ xs) (y ∷ ys) = x == y && same_bytes xs ys

-- item by item, a beginning before what goes on
unfoldable pub less_bytes : Bytes → Bytes → Bool
less_bytes [] [] = false
less_bytes [] (y ∷ ys) = true
less_bytes (x ∷ xs) [] = false
less_bytes (x ∷ xs) (y ∷ ys) = nat_lt x y || (x == y && less_bytes xs ys)

-- ---- paths

-- a path from the tree's root: bits. The empty path is the root, one of 256 bits a key's, and any other a node's
abbrev pub Path : Type 0
Path = List ℕ

-- the n low bits of a number, the high one first
unfoldable pub bits : ℕ → ℕ → List ℕ
bits zero b = []
bits (suc n) b = bits n (b / 2) ++ (b % 2 ∷ [])

unfoldable pub bits_of_bytes : Bytes → List ℕ
bits_of_bytes [] = []
bits_of_bytes (b ∷ bs) = bits 8 b ++ bits_of_bytes bs

-- a key's path: the 256 bits of its SHA-256, each byte's high bit first
abbrev pub key_path : Bytes → Path
key_path k = bits_of_bytes (sha256 k)

-- the first path begins with the second and is longer
unfoldable pub below : Path → Path → Bool
below [] q = false
below (x ∷ xs) [] = true
below (x ∷ xs) (y ∷ ys) = x == y && below xs ys

-- on which side of the second the first is: the next bit, 0 left and 1 right
unfoldable pub side : Path → Path → ℕ
side [] q = 0
side (x ∷ xs) [] = x
side (x ∷ xs) (y ∷ ys) = side xs ys

-- ---- records

-- what a node knows of one side: that nothing there is in use; or the next path there that is in use, the hash that its record had
-- when it was last evicted by Merkle, and whether it was evicted by Blum
pub data Pointer : Type 0 where
  absent : Pointer
  present : Path → ℕ → Bool → Pointer

pub record Children : Type 0 where
  pub left : Pointer
  pub right : Pointer

abbrev pub child_on : Children → ℕ → Pointer
child_on c d = pick (d == 0) c.left c.right

abbrev pub with_child : Children → ℕ → Pointer → Children
with_child c d p = pick (d == 0) (record { left = p; right = c.right }) (record { left = c.left; right = p })

abbrev pub no_children : Children
no_children = record { left = absent; right = absent }

-- a key's value, if it has one
abbrev pub Value : Type 0
Value = Option Bytes

-- a key with its value, or a Merkle node with its child pointers
pub data Record : Type 0 where
  data_record : Bytes → Value → Record
  node : Path → Children → Record

unfoldable pub path_of : Record → Path
path_of (data_record k v) = key_path k
path_of (node p c) = p

unfoldable pub is_data : Record → Bool
is_data (data_record k v) = true
is_data (node p c) = false

unfoldable pub children_of : Record → Children
children_of (data_record k v) = no_children
children_of (node p c) = c

unfoldable pub same_value : Value → Value → Bool
same_value None None = true
same_value None (Some y) = false
same_value (Some x) None = false
same_value (Some x) (Some y) = same_bytes x y

-- as every record is at first: a key without a value, a node without children
unfoldable pub is_absent : Pointer → Bool
is_absent absent = true
is_absent (present p h b) = false

unfoldable pub is_initial : Record → Bool
is_initial (data_record k v) = same_value v None
is_initial (node p c) = is_absent c.left && is_absent c.right

-- ---- what is hashed

-- a number in n bytes, the low one first, and back
unfoldable pub le_bytes : ℕ → ℕ → Bytes
le_bytes zero n = []
le_bytes (suc k) n = n % 256 ∷ le_bytes k (n / 256)

unfoldable pub le_number : Bytes → ℕ
le_number [] = 0
le_number (b ∷ bs) = b + 256 * le_number bs

-- bytes, with their length in two bytes before them
abbrev pub sized_bytes : Bytes → Bytes
sized_bytes t = le_bytes 2 (length t) ++ t

unfoldable pub pointer_bytes : Pointer → Bytes
pointer_bytes absent = 0 ∷ []
pointer_bytes (present p h b) = 1 ∷ (pick b 1 0 ∷ (sized_bytes p ++ le_bytes 32 h))

unfoldable pub value_bytes : Value → Bytes
value_bytes None = 0 ∷ []
value_bytes (Some t) = 1 ∷ sized_bytes t

-- what a record's Merkle hash is taken over: all but its key or path
unfoldable pub merkle_bytes : Record → Bytes
merkle_bytes (data_record k v) = 0 ∷ value_bytes v
merkle_bytes (node p c) = 1 ∷ (pointer_bytes c.left ++ pointer_bytes c.right)

-- a record with its key or path
unfoldable pub record_bytes : Record → Bytes
record_bytes (data_record k v) = 0 ∷ (sized_bytes k ++ merkle_bytes (data_record k v))
record_bytes (node p c) = 1 ∷ (sized_bytes p ++ merkle_bytes (node p c))

-- SHA-256 as a number, its first byte the low one
abbrev pub hash_of : Bytes → ℕ
hash_of bs = le_number (sha256 bs)

abbrev pub merkle_hash : Record → ℕ
merkle_hash r = hash_of (merkle_bytes r)
