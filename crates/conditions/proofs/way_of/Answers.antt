use Rattle.std.proofs.Common.{◌≡◌, ℕ, Bool, true, false, not, ◌&&◌, eqb, List, Option, refl, sym, subst, ap, ◌∙◌}
use Rattle.std.specs.Bool.{then_some}
use Rattle.std.proofs.lemmas.Bool.{not-true}
use Rattle.model.specs.Records.{Path, Record, Pointer, Bytes, present, is_data, is_initial, same_bytes, below, path_of, merkle_bytes, merkle_hash, hash_of}
use Rattle.model.specs.Verifier.{Verifier, fails, add_merkle_at}
use Rattle.slot.specs.Meant.{child_meant}
use Rattle.conditions.proofs.Added.{first_not, first, other_hash, by_blum, again, not_initial, not_node, not_below, between}
use Rattle.path.specs.Packs.{path_in}
use Rattle.path.specs.declared.packed.Path as packed
use Rattle.slot.specs.Layout.{number_in}
use Rattle.conditions.specs.Adds.{Coming, Comes}
use Rattle.conditions.specs.declared.parts.Way.{Way}
use Rattle.conditions.specs.declared.parts.Way.TheVariants.{Between}
use Rattle.conditions.proofs.way_of.Goals.{then-candidate, else-candidate, then-candidate-2, else-candidate-2}
use Rattle.conditions.proofs.way_of.Goals as goal
use Rattle.slot.proofs.Numbers.{limbs_in}

-- what is said of a path, of the record that has it
of_record : (x : Record) (f : Path → Bool) (p : Path) (b : Bool) → path_of x ≡ p → b ≡ f p → f (path_of x) ≡ b
of_record x f p b e h = ap f e ∙ sym h

own_hash : (x : Record) (own : ℕ) (bytes : Bytes) → own ≡ hash_of bytes → bytes ≡ merkle_bytes x → own ≡ merkle_hash x
own_hash x own bytes e h = e ∙ ap hash_of h

hash_is : (x : Record) (h own : ℕ) (b : Bool) → b ≡ eqb h own → own ≡ merkle_hash x → eqb h (merkle_hash x) ≡ b
hash_is x h own b e o = ap (eqb h) (sym o) ∙ sym e

module _ (v : Verifier) (x : Record) (q : Path) (above : Record) (c : Pointer) where
  -- in this way, or in none
  chosen : (b : Bool) (w : Way) (o : Option Way) → o ≡ then_some b w → (b ≡ true → Coming v x q above c w) → (b ≡ false → add_merkle_at v x q above c ≡ fails) → Comes v x q above c o
  chosen true w o e f g = subst (Comes v x q above c) (sym e) (f refl)
  chosen false w o e f g = subst (Comes v x q above c) (sym e) (g refl)

  module _ (n : packed.Path) (h : List ℕ) (b : Bool) (ec : c ≡ present (path_in n.len n.bits) (number_in h) b) (it : same_bytes (path_in n.len n.bits) (path_of x) ≡ false) where
    -- only a new node lies between, over what is below it
    chosen_between : (i d l : Bool) → i ≡ is_initial x → d ≡ not (is_data x) → l ≡ below (path_in n.len n.bits) (path_of x) → (o : Option Way) → o ≡ then_some ((i && d) && l) (Between n h b) → Comes v x q above c o
    chosen_between false d l ei ed el o e = subst (Comes v x q above c) (sym e) (not_initial v x q above c _ _ _ ec it ei)
    chosen_between true false l ei ed el o e = subst (Comes v x q above c) (sym e) (not_node v x q above c _ _ _ ec it ed)
    chosen_between true true false ei ed el o e = subst (Comes v x q above c) (sym e) (not_below v x q above c _ _ _ ec it el)
    chosen_between true true true ei ed el o e = subst (Comes v x q above c) (sym e) (record {
      step = between v x q above c _ _ _ ec it ei ed el;
      own = tt;
      over = not-true _ (sym ed);
    })

pub returns-in-Absent : goal.returns-in-Absent
returns-in-Absent c = λ v x q above w.
    chosen v x q above _ _ _ _ c.then_some.ensures
    (λ e. record { step = first v x q above _ (ap child_meant c.in-Absent.is) (sym e ∙ w.initial_is); own = tt; over = tt })
    (λ e. first_not v x q above _ (ap child_meant c.in-Absent.is) (sym e ∙ w.initial_is))

pub returns-then-by_blum : goal.returns-then-by_blum
returns-then-by_blum c = λ v x q above w.
    by_blum v x q above _ _ _ _ (ap child_meant c.in-Present.is) (of_record x (same_bytes _) _ true w.path_is c.if-is_same.ensures) c.if-by_blum.true

pub returns-then-is_same : goal.returns-then-is_same
returns-then-is_same c = λ v x q above w.
    let own = own_hash x _ _ (limbs_in c.digest-own.result ∙ c.digest-own.ensures.number) w.bytes_are in
    let it = of_record x (same_bytes _) _ true w.path_is c.if-is_same.ensures in
    chosen v x q above _ _ _ _ c.then_some-then-is_same.ensures
    (λ e. record { step = again v x q above _ _ _ _ (ap child_meant c.in-Present.is) it (hash_is x _ _ true (sym e ∙ c.same_hash.ensures) own) c.if-by_blum.false; own = own; over = tt })
    (λ e. other_hash v x q above _ _ _ _ (ap child_meant c.in-Present.is) it (hash_is x _ _ false (sym e ∙ c.same_hash.ensures) own))

pub returns-after-candidate-2 : goal.returns-after-candidate-2
returns-after-candidate-2 c = λ v x q above w.
    let i = c.args.candidate.is_initial in
    let d = c.args.candidate.of_node in
    let p = c.in-Present.next in
    let l = below (path_in p.len p.bits) (path_in c.args.candidate.path.len c.args.candidate.path.bits) in
    let first : c.if-candidate.value ≡ (i && d) = elim c.if-candidate.branch [
      | then-candidate t ↦ t.value-is ∙ ap (λ k. k && d) (sym t.if-candidate.true)
      | else-candidate t ↦ t.value-is ∙ t.if-candidate.false ∙ ap (λ k. k && d) (sym t.if-candidate.false)
    ] in
    let all : c.if-candidate-2.is_between ≡ ((i && d) && l) = elim c.if-candidate-2.branch [
      | then-candidate-2 t ↦ t.is_between-is ∙ t.is_below-is_between.ensures ∙ ap (λ k. k && l) (sym (sym first ∙ t.if-candidate-2.true))
      | else-candidate-2 t ↦ t.is_between-is ∙ t.if-candidate-2.false ∙ ap (λ k. k && l) (sym (sym first ∙ t.if-candidate-2.false))
    ] in
    chosen_between v x q above _ p c.in-Present.hash c.in-Present.by_blum (ap child_meant c.in-Present.is) (of_record x (same_bytes _) _ false w.path_is c.if-is_same.ensures) i d l w.initial_is w.node_is (ap (below (path_in p.len p.bits)) (sym w.path_is)) _ (c.then_some-in-Present.ensures ∙ ap (λ k. then_some k (Between p c.in-Present.hash c.in-Present.by_blum)) all)
