-- The steps of a search.
use Rattle.std.proofs.Common.{◌≡◌, ℕ, suc, ◌+◌, ◌<◌, ◌≤◌, Bool, true, false, List, length, get_or, drop, ap, ◌∙◌, arith}
use Rattle.std.proofs.lemmas.List.{at_drop_more, at_drop_all}
use Rattle.model.specs.Records.{pick}
use Rattle.slot.specs.Finds.{position}

module _ {X : Type 0} (t : X → Bool) (xs : List X) (i : ℕ) (d : X) where
  pub position_next : i < length xs → t (get_or xs i d) ≡ false → position t xs ≡ i + position t (drop i xs) → position t xs ≡ (i + 1) + position t (drop (i + 1) xs)
  unfolding position pick
  position_next h n e =
      let s : position t (drop i xs) ≡ pick (t (get_or xs i d)) 0 (suc (position t (drop (i + 1) xs))) = at_drop_more (position t) xs i d h in
      let u : position t (drop i xs) ≡ suc (position t (drop (i + 1) xs)) = s ∙ ap (λ (b : Bool). pick b 0 (suc (position t (drop (i + 1) xs)))) n in
      omega arith

  pub position_hit : i < length xs → t (get_or xs i d) ≡ true → position t xs ≡ i + position t (drop i xs) → i ≡ position t xs
  unfolding position pick
  position_hit h y e =
      let s : position t (drop i xs) ≡ pick (t (get_or xs i d)) 0 (suc (position t (drop (i + 1) xs))) = at_drop_more (position t) xs i d h in
      let u : position t (drop i xs) ≡ 0 = s ∙ ap (λ (b : Bool). pick b 0 (suc (position t (drop (i + 1) xs)))) y in
      omega arith

  pub position_end : length xs ≤ i → position t xs ≡ i + position t (drop i xs) → i ≡ position t xs
  unfolding position pick
  position_end h e = let u : position t (drop i xs) ≡ 0 = at_drop_all (position t) xs i h in omega arith
