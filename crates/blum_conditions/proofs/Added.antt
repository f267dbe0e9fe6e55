-- AddBlum's conditions, each as the code's test leaves it.
use Rattle.std.proofs.Common.{◌≡◌, ◌<◌, ◌≤◌, true, false, not, ltb, List, [], ◌∷◌, length, ap}
use Rattle.std.proofs.lemmas.Bool.{lt-ltb, le-leb, lt-leb, and_from, and_left, and_right}
use Rattle.model.specs.Records.{Record, path_of}
use Rattle.model.specs.Verifier.{Timestamp, Verifier, Stored, find, nonempty, can_add_blum}

module _ (v : Verifier) (x : Record) (m : Timestamp) where
  pub stored_already : (y : Stored) → find (path_of x) v.store ≡ y ∷ [] → can_add_blum v x m ≡ false
  unfolding nonempty
  stored_already y e = and_left _ _ (and_right (ltb 0 (length (path_of x))) _ (ap (λ (ys : List Stored). not (nonempty ys)) e))

  pub epoch_over : m.epoch < v.done → can_add_blum v x m ≡ false
  epoch_over h = and_right _ _ (lt-leb v.done m.epoch h)

  pub may : 0 < length (path_of x) → find (path_of x) v.store ≡ [] → v.done ≤ m.epoch → can_add_blum v x m ≡ true
  unfolding nonempty
  may l e h = and_from _ _ (and_from _ _ (lt-ltb 0 (length (path_of x)) l) (ap (λ (ys : List Stored). not (nonempty ys)) e)) (le-leb v.done m.epoch h)
