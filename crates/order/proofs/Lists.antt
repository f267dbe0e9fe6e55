-- What is picked by a test, and what is in a list.
use Rattle.std.proofs.Common.{◌≡◌, Bool, true, false, ◌⊎◌, List, [], ◌∷◌, ◌++◌, sym, refl, subst, inl, inr}
use Rattle.model.specs.Records.{pick}
use Rattle.model.specs.Order.{Member}

pub picks : {A : Type 0} (b : Bool) (x y : A) → b ≡ true → pick b x y ≡ x
unfolding pick
picks b x y e = rw e

pub picks_not : {A : Type 0} (b : Bool) (x y : A) → b ≡ false → pick b x y ≡ y
unfolding pick
picks_not b x y e = rw e

-- what holds of both, each under its test, holds of what is picked
pub pick_both : {A : Type 0} (P : A → Type 0) (b : Bool) (x y : A) → (b ≡ true → P x) → (b ≡ false → P y) → P (pick b x y)
unfolding pick
pick_both P true x y f g = f refl
pick_both P false x y f g = g refl

module _ {A : Type 0} where
  pub in_split : (e : A) (xs ys : List A) → Member e (xs ++ ys) → Member e xs ⊎ Member e ys
  in_split e [] ys h = inr h
  in_split e (x ∷ xs) ys (inl i) = inl (inl i)
  in_split e (x ∷ xs) ys (inr h) = go (in_split e xs ys h)
    where
      go : Member e xs ⊎ Member e ys → ((e ≡ x) ⊎ Member e xs) ⊎ Member e ys
      go (inl a) = inl (inr a)
      go (inr b) = inr b

  pub in_left : (e : A) (xs ys : List A) → Member e xs → Member e (xs ++ ys)
  in_left e (x ∷ xs) ys (inl i) = inl i
  in_left e (x ∷ xs) ys (inr h) = inr (in_left e xs ys h)
  in_left e [] ys h = absurd h

  pub in_right : (e : A) (xs ys : List A) → Member e ys → Member e (xs ++ ys)
  in_right e [] ys h = h
  in_right e (x ∷ xs) ys h = inr (in_right e xs ys h)

  -- what holds of each
  abbrev pub All : (A → Type 0) → List A → Type 0
  All P [] = Unit
  All P (x ∷ xs) = P x × All P xs

  pub all_map : (P Q : A → Type 0) (xs : List A) → ((x : A) → P x → Q x) → All P xs → All Q xs
  all_map P Q [] f a = tt
  all_map P Q (x ∷ xs) f a = (f x a.0, all_map P Q xs f a.1)

  pub all_append : (P : A → Type 0) (xs ys : List A) → All P xs → All P ys → All P (xs ++ ys)
  all_append P [] ys a b = b
  all_append P (x ∷ xs) ys a b = (a.0, all_append P xs ys a.1 b)

  pub all_in : (P : A → Type 0) (x : A) (xs : List A) → Member x xs → All P xs → P x
  all_in P x [] h a = absurd h
  all_in P x (y ∷ ys) (inl i) a = subst P (sym i) a.0
  all_in P x (y ∷ ys) (inr h) a = all_in P x ys h a.1
