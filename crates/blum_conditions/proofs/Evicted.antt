-- The conditions of evictions by Blum, each as the code's test leaves it.
use Rattle.std.proofs.Common.{◌≡◌, ◌<◌, Bool, true, false, not, ◌&&◌, ltb, [], ◌∷◌, length, sym, refl, ap, ◌∙◌, arith}
use mathlib.Core.Bool.{beq}
use Rattle.std.proofs.lemmas.Bool.{not-true, not-false, lt-ltb, le-ltb, and_from, and_left, and_right, not_from_true, not_from_false}
use Rattle.model.specs.Records.{Path}
use Rattle.model.specs.Verifier.{Stored, Timestamp, Verifier, find, earlier_with, same_flag, has_merkle_child, can_evict_blum}
use Rattle.blum_conditions.specs.Evicts.{evictable}

flag_is : (a b : Bool) → same_flag a b ≡ beq a b
unfolding same_flag
flag_is true true = refl
flag_is true false = refl
flag_is false true = refl
flag_is false false = refl

module _ (v : Verifier) (p : Path) (m : Timestamp) (by : Bool) where
  pub none_there : find p v.store ≡ [] → evictable v p m by (find p v.store) ≡ false
  unfolding evictable
  none_there e = ap (evictable v p m by) e

  module _ (x : Stored) where
    cannot : find p v.store ≡ x ∷ [] → can_evict_blum v p m by x ≡ false → evictable v p m by (find p v.store) ≡ false
    unfolding evictable
    cannot e f = ap (evictable v p m by) e ∙ f

    module _ (some : find p v.store ≡ x ∷ []) where
      pub is_root : length p ≡ 0 → evictable v p m by (find p v.store) ≡ false
      is_root e = cannot some (and_left _ _ (and_left _ _ (and_left _ _ (le-ltb 0 (length p) (omega arith)))))

      pub not_later : false ≡ earlier_with v.clock v.last_evicted m p → evictable v p m by (find p v.store) ≡ false
      not_later e = cannot some (and_left _ _ (and_left _ _ (and_right (ltb 0 (length p)) _ (sym e))))

      pub otherwise : not (beq x.by_merkle by) ≡ true → evictable v p m by (find p v.store) ≡ false
      otherwise e = cannot some (and_left _ _ (and_right (ltb 0 (length p) && earlier_with v.clock v.last_evicted m p) _ (flag_is x.by_merkle by ∙ not-true _ e)))

      pub child_stored : true ≡ has_merkle_child v.store x.rec → evictable v p m by (find p v.store) ≡ false
      child_stored e = cannot some (and_right ((ltb 0 (length p) && earlier_with v.clock v.last_evicted m p) && same_flag x.by_merkle by) _ (not_from_true _ (sym e)))

    pub may : 0 < length p → true ≡ earlier_with v.clock v.last_evicted m p → not (beq x.by_merkle by) ≡ false → false ≡ has_merkle_child v.store x.rec → can_evict_blum v p m by x ≡ true
    may l e w h = and_from _ _ (and_from _ _ (and_from _ _ (lt-ltb 0 (length p) l) (sym e)) (flag_is x.by_merkle by ∙ not-false _ w)) (not_from_false _ (sym h))
