-- The words that are options.
use Rattle.std.specs.Prelude.{◌≡◌, ℕ, ◌⊎◌, List, codes, ◌≢◌, slice_index}
use Rattle.options.specs.declared.Flag.{Flag}
use Rattle.options.specs.declared.Flag.TheVariants.{Plain, End, Key, Quiet, Progress, NoFail, Help, Other}

-- it is one of the options that stand alone
abbrev pub Named : List ℕ → Type 0
Named w = (w ≡ codes "--") ⊎ (w ≡ codes "--key") ⊎ (w ≡ codes "--quiet") ⊎ (w ≡ codes "--progress") ⊎ (w ≡ codes "--no-fail") ⊎ (w ≡ codes "--help") ⊎ (w ≡ codes "-h")

abbrev pub Spells : List ℕ → Flag → Type 0
Spells w Plain = (w ≡ codes "-") ⊎ (slice_index w 0 ≢ 45)
Spells w End = w ≡ codes "--"
Spells w Key = w ≡ codes "--key"
Spells w Quiet = w ≡ codes "--quiet"
Spells w Progress = w ≡ codes "--progress"
Spells w NoFail = w ≡ codes "--no-fail"
Spells w Help = (w ≡ codes "--help") ⊎ (w ≡ codes "-h")
Spells w Other = (slice_index w 0 ≡ 45) × (w ≢ codes "-") × (Named w → ⊥)
