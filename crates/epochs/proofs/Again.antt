-- A monitor's memory after writes that leave the limits, the secret and the blocks.
use Rattle.std.proofs.Common.{◌≡◌, ℕ, ◌+◌, ◌<◌, ◌≤◌, List, length, get_or, sym, ap, ◌∙◌, subst, arith}
use Rattle.model.specs.Records.{pick}
use Rattle.model.specs.Verifier.{Verifier}
use Rattle.model.specs.Monitor.{Limits, State, verifier_at, sum_at, no_sum, all_done}
use Rattle.slot.specs.Parts.{part}
use Rattle.block.specs.Blocks.{Keeps}
use Rattle.memory.specs.Keeping.{block_at, sum_in, Kept, Laid}
use Rattle.memory.proofs.Framed.{kept_from}
use Rattle.slot.specs.Layout.{bytes_in}

pub laid_again : (l : Limits) (m m' : List ℕ) (s z : State) → Laid l m s → length m' ≡ length m
    → ((i : ℕ) → i < 3 → get_or m' i 0 ≡ get_or m i 0) → get_or m' 3 0 ≡ pick z.stopped 1 0 → get_or m' 4 0 ≡ z.certified
    → part 8 4 m' ≡ part 8 4 m → ((t : ℕ) → block_at l m' t ≡ block_at l m t) → z.verifiers ≡ s.verifiers
    → ((e : ℕ) → z.certified ≤ e → e < z.certified + l.epochs → sum_in l.epochs m' e ≡ sum_at z.sums e)
    → ((e : ℕ) → z.certified + l.epochs ≤ e → sum_at z.sums e ≡ no_sum)
    → Laid l m' z
laid_again l m m' s z k long head st cs secret blocks vs sums later = record {
  size = long ∙ k.size;
  verifiers = head 0 (omega arith) ∙ k.verifiers;
  places = head 1 (omega arith) ∙ k.places;
  epochs = head 2 (omega arith) ∙ k.epochs;
  stopped = st;
  certified = cs;
  secret = ap bytes_in secret ∙ k.secret;
  count = ap length vs ∙ k.count;
  blocks = λ t h. subst (λ (b : List ℕ). Keeps l.places b (verifier_at z.verifiers t)) (sym (blocks t))
      (subst (λ (xs : List Verifier). Keeps l.places (block_at l m t) (verifier_at xs t)) (sym vs) (k.blocks t h));
  sums = sums;
  later = later;
}

-- who is waited for, too, if the verifiers are the same and nothing is certified
pub kept_again : (l : Limits) (m m' : List ℕ) (s z : State) → Kept l m s → Laid l m' z → z.verifiers ≡ s.verifiers → z.certified ≡ s.certified → z.stopped ≡ s.stopped → Kept l m' z
kept_again l m m' s z k laid vs cs st =
    kept_from l m' z laid (λ going. ap (λ (xs : List Verifier). all_done xs z.certified) vs ∙ ap (all_done s.verifiers) cs ∙ k.waiting (sym st ∙ going))
