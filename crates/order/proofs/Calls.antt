-- AddBlum whose element is away keeps the invariant; so do the epochs' entries, a get and a set, and a get has what was set last.
use Rattle.std.proofs.Common.{◌≡◌, ℕ, Bool, true, false, ◌⊎◌, List, [], ◌∷◌, Some, None, sym, refl, ap, ◌∙◌, inl, inr}
use Rattle.std.proofs.lemmas.Bool.{cases_eq}
use Rattle.model.specs.Records.{pick, Bytes, same_bytes, Path, key_path, present, Value, same_value, Record, data_record, path_of}
use Rattle.model.specs.Verifier.{Timestamp, add_blum, next_epoch, verify_epoch, get, set, Stored, Verifier, find, updated, Element, goes, goes_to}
use Rattle.model.specs.Monitor.{Call, entry_code}
use Rattle.model.specs.Order.{value_after_entry, value_after, get_right}
use Rattle.order.proofs.Paths.{same_refl, is_same, not_same, same_or}
use Rattle.order.proofs.Lists.{picks, picks_not}
use Rattle.order.proofs.Shape.{upd, upd_at, upd_off, shape_same}
use Rattle.order.proofs.World.{at, away_blum, spot, World, kind_at, kind, loc, Ptr, Tree, form, side_of}
use Rattle.order.proofs.Placed.{seen_by, placed_updated, placed_added}
use Rattle.order.proofs.Moves.{ptr_loc, move}
use Rattle.order.proofs.Ways.{Found, added_by_blum, in_next_epoch, done_with_one, with_value}
use Rattle.order.proofs.Invariant.{Inv, Then, Keeps, placed_less, no_elements, found_here}

same_value_refl : (v : Value) → same_value v v ≡ true
unfolding same_value
same_value_refl None = refl
same_value_refl (Some x) = same_refl x

module _ (hs : ℕ → List Stored) (H : List Record) (bs : List Call) (P : Element → Type 0) (t : ℕ) (c : Verifier) (I : Inv hs H bs P) (isc : c.store ≡ hs t) where
  abbrev W : World
  W = I.world

  pub keeps_adds_blum : (r : Record) (m : Timestamp) (j : ℕ) →
      Keeps hs H bs P t (add_blum r m j) (goes (added_by_blum c r m) (record { rec = r; timestamp = m; verifier = j } ∷ []) [] [])
  unfolding pick entry_code get_right
  keeps_adds_blum r m j _ gs g others n = inr (comes gs g others n.0, refl)
    where
      el : Element
      el = record { rec = r; timestamp = m; verifier = j }

      comes : (gs : ℕ → List Stored) → gs t ≡ record { rec = r; by_merkle = false } ∷ c.store → ((u : ℕ) → (u ≡ t → ⊥) → gs u ≡ hs u) → P el →
          Inv gs H bs (Then P (el ∷ []) [])
      comes gs g others pe =
          record {
            world = upd W (path_of r) (spot r (at t false));
            tree = move H H W (path_of r) r (away_blum m j) (at t false) I.tree isx (λ l h b k x. x) (λ d y h b n e k. ptr_loc H (t ∷ []) h b (kind (W y)) k) (λ z d h b e k. k);
            rest = placed_added hs gs bs P W t I.rest others (Then P (el ∷ []) []) (path_of r) r false (λ u. ap (seen_by u) isx) refl
                (g ∙ ap (λ y. record { rec = r; by_merkle = false } ∷ y) isc) (rw isx at (I.rest.fit (path_of r))).1 (λ l i. rw (i, isx) at (I.rest.value l)) pends;
          }
        where
          isx : W (path_of r) ≡ spot r (away_blum m j)
          isx = I.rest.pend el pe

          pends : (e : Element) → Then P (el ∷ []) [] e → P e × (path_of e.rec ≡ path_of r → ⊥)
          pends e (inl b) = absurd b
          pends e (inr k) = (k.0, λ i. k.1 (inl (same i)))
            where
              same : path_of e.rec ≡ path_of r → e ≡ el
              same i =
                  let f : spot e.rec (away_blum e.timestamp e.verifier) ≡ spot r (away_blum m j) = sym (I.rest.pend e k.0) ∙ (ap W i ∙ isx) in
                  let f₁ : e.rec ≡ r = cc f in
                  let f₂ : e.timestamp ≡ m = cc f in
                  let f₃ : e.verifier ≡ j = cc f in
                  (λ i. record { rec = f₁ i; timestamp = f₂ i; verifier = f₃ i })

  -- nothing moves
  stays : (gs : ℕ → List Stored) (cs : List Call) → gs t ≡ c.store → ((u : ℕ) → (u ≡ t → ⊥) → gs u ≡ hs u) → ((k : Bytes) → value_after cs k ≡ value_after bs k) → Inv gs H cs (Then P [] [])
  stays gs cs g others has =
      record {
        world = W;
        tree = I.tree;
        rest = record {
          link = λ u p. ap (find p) (same u) ∙ I.rest.link u p;
          once = λ u. rw (same u) (I.rest.once u);
          fit = I.rest.fit;
          value = λ k. rw (has k) (I.rest.value k);
          pend = λ e p. I.rest.pend e (no_elements P e p);
        };
      }
    where
      same : (u : ℕ) → gs u ≡ hs u
      same u = go (cases_eq u t)
        where
          go : (u ≡ t) ⊎ (u ≡ t → ⊥) → gs u ≡ hs u
          go (inl i) = ap gs i ∙ (g ∙ (isc ∙ ap hs (sym i)))
          go (inr n) = others u n

  pub keeps_next_epoch : Keeps hs H bs P t next_epoch (goes_to (in_next_epoch c))
  unfolding pick entry_code get_right
  keeps_next_epoch _ gs g others m = inr (stays gs bs g others (λ k. refl), refl)

  pub keeps_verify_epoch : Keeps hs H bs P t verify_epoch (goes_to (done_with_one c))
  unfolding pick entry_code get_right
  keeps_verify_epoch _ gs g others m = inr (stays gs bs g others (λ k. refl), refl)

  found_key : (k : Bytes) (v : Value) (x : Stored) → Found c (key_path k) x → x.rec ≡ data_record k v → W (key_path k) ≡ spot (data_record k v) (at t x.by_merkle)
  found_key k v x f e = found_here hs H bs P t c I isc (key_path k) x f ∙ ap (λ a. spot a (at t x.by_merkle)) e

  pub keeps_gets : (k : Bytes) (w : Value) (x : Stored) → Found c (key_path k) x → x.rec ≡ data_record k w → Keeps hs H bs P t (get k w) (goes_to c)
  unfolding pick entry_code get_right value_after value_after_entry
  keeps_gets k w x f e _ gs g others m =
      let h : value_after bs k ≡ w = (rw (found_key k w x f e) at (I.rest.value k)) refl in
      inr (stays gs (record { verifier = t; epoch = c.clock.epoch; entry = get k w } ∷ bs) g others (λ l. refl), ap (λ v. same_value v w) h ∙ same_value_refl w)

  -- a key is given a value
  tree_set : (k : Bytes) (v w : Value) (b : Bool) → W (key_path k) ≡ spot (data_record k v) (at t b) → Tree H (upd W (key_path k) (spot (data_record k w) (at t b)))
  tree_set k v w b isk = record { shape = shape_same (λ z. form (W z)) (λ z. form (V z)) (λ z. (alike z).0) I.tree.shape; ptr = points }
    where
      V : World
      V = upd W (key_path k) (spot (data_record k w) (at t b))

      kinds : (x : Bool) → kind_at (data_record k w) (at t x) ≡ kind_at (data_record k v) (at t x)
      kinds true = refl
      kinds false = refl

      alike : (z : Path) → (form (V z) ≡ form (W z)) × (kind (V z) ≡ kind (W z)) × (loc (V z) ≡ loc (W z)) × ((d : Bool) → side_of (V z) d ≡ side_of (W z) d)
      alike z = go (same_or z (key_path k))
        where
          go : (z ≡ key_path k) ⊎ (z ≡ key_path k → ⊥) → (form (V z) ≡ form (W z)) × (kind (V z) ≡ kind (W z)) × (loc (V z) ≡ loc (W z)) × ((d : Bool) → side_of (V z) d ≡ side_of (W z) d)
          go (inl i) = rw (upd_at W (key_path k) (spot (data_record k w) (at t b)) z i, i, isk) (refl, kinds b, refl, λ d. refl)
          go (inr n) = rw (upd_off W (key_path k) (spot (data_record k w) (at t b)) z n) (refl, refl, refl, λ d. refl)

      points : (q : Path) (d : Bool) (p : Path) (h : ℕ) (x : Bool) → side_of (V q) d ≡ present p h x → Ptr H (loc (V q)) h x (kind (V p))
      points q d p h x e = rw ((alike q).2, (alike p).1) (I.tree.ptr q d p h x (sym ((alike q).3 d) ∙ e))

  pub keeps_sets : (k w : Bytes) (x : Stored) (u : Value) → Found c (key_path k) x → x.rec ≡ data_record k u → Keeps hs H bs P t (set k w) (goes_to (with_value c k w))
  unfolding pick entry_code get_right value_after value_after_entry path_of
  keeps_sets k w x u f e fits gs g others m =
      inr (
        record {
          world = V;
          tree = tree_set k u (Some w) x.by_merkle isk;
          rest = placed_less gs cs P (Then P [] []) V (no_elements P)
              (placed_updated hs gs bs P W t I.rest others cs (key_path k) (data_record k u) (data_record k (Some w)) x.by_merkle isk refl
              (g ∙ ap (updated (data_record k (Some w))) isc) fits
              (λ j i l. picks (same_bytes k j) (Some w) (value_after bs j) (is_same k j l))
              (λ j n. picks_not (same_bytes k j) (Some w) (value_after bs j) (not_same k j (λ i. n (ap key_path (sym i))))));
        },
        refl,
      )
    where
      cs : List Call
      cs = record { verifier = t; epoch = c.clock.epoch; entry = set k w } ∷ bs

      V : World
      V = upd W (key_path k) (spot (data_record k (Some w)) (at t x.by_merkle))

      isk : W (key_path k) ≡ spot (data_record k u) (at t x.by_merkle)
      isk = found_key k u x f e
