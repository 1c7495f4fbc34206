-- Formats are exact: what is read is spelled so, and what is spelled so is read.
use Rattle.std.proofs.Common.{◌≡◌, ℕ, zero, suc, ◌+◌, ◌-◌, ◌*◌, ◌^◌, ◌<◌, ◌≤◌, Bool, true, false, cond, eqb, ltb, leb, ◌&&◌, List, [], ◌∷◌, ◌++◌, length, get_or, take, drop, Option, Some, None, inl, inr, refl, sym, ap, subst, ◌∙◌, append_assoc, arith}
use Rattle.std.proofs.lemmas.Bool.{cases_lt, ltb-false, le-ltb, le-leb, leb-true, eqb-true, and_parts}
use Rattle.std.proofs.lemmas.List.{get_or_append_left, get_or_past, take_at, drop_at, take-append-drop, length-append, length-take, get_or-drop, append-nil, nil_from_length}
use Rattle.layout.specs.Bytes.{little, number, zeros, IsBytes}
use Rattle.layout.specs.Format.{Format, num, ranged, part, blank, counted, padded, ◌▸◌}
use Rattle.layout.specs.Reading.{◌>>=◌, number_read, ranged_at, part_at, is_zero, zeros_at, counted_at, padded_at, then_at, all_of}
use Rattle.layout.proofs.NumberLaws.{length-little, number-spelled, number-little, number-lt}
use Rattle.layout.proofs.ZeroLaws.{length-zeros}

pub IsBytes-drop : (n : ℕ) (bytes : List ℕ) → IsBytes bytes → IsBytes (drop n bytes)
IsBytes-drop n bytes h i = rw get_or-drop (h (n + i))

pub bind_some : {A B : Type 0} (r : Option A) (f : A → Option B) (y : B) → (r >>= f) ≡ Some y → (x : A) × (r ≡ Some x) × (f x ≡ Some y)
bind_some (Some x) f y e = (x, refl, e)
bind_some None f y e = absurd cc

pub some_is : {A : Type 0} (x y : A) → ◌≡◌ {A = Option A} (Some x) (Some y) → x ≡ y
some_is x y e = cc

-- the value behind a test
pub unless_then : {A : Type 0} (b : Bool) (x : Option A) (y : A) → cond b None x ≡ Some y → (b ≡ false) × (x ≡ Some y)
unless_then true x y e = absurd cc
unless_then false x y e = (refl, e)

pub if_then : {A : Type 0} (b : Bool) (x : Option A) (y : A) → cond b x None ≡ Some y → (b ≡ true) × (x ≡ Some y)
if_then true x y e = (refl, e)
if_then false x y e = absurd cc

-- what follows from either outcome of a test
pub tried : {A P : Type 0} (b : Bool) (x y : Option A) (z : A) → cond b x y ≡ Some z → (b ≡ true → x ≡ Some z → P) → (y ≡ Some z → P) → P
tried true x y z e f g = f refl e
tried false x y z e f g = g e

-- the bytes are this text and these bytes behind it
pub record Takes (bytes text rest : List ℕ) : Type 0 where
  pub parts : bytes ≡ text ++ rest
  pub rest_fits : IsBytes rest

pub Takes-then : (a x b y c : List ℕ) → Takes a x b → Takes b y c → Takes a (x ++ y) c
Takes-then a x b y c p q = record { parts = p.parts ∙ ap (λ (t : List ℕ). x ++ t) q.parts ∙ sym (append_assoc x y c); rest_fits = q.rest_fits }

-- a format reads exactly what it spells
pub record IsExact {A : Type 0} (f : Format A) : Type 0 where
  pub takes : (bytes : List ℕ) (x : A × List ℕ) → IsBytes bytes → f.at bytes ≡ Some x → Takes bytes (f.text x.0) x.1 × f.Fits x.0
  pub again : (v : A) (rest : List ℕ) → f.Fits v → f.at (f.text v ++ rest) ≡ Some (v, rest)

pub num_exact : (n : ℕ) → IsExact (num n)
num_exact n = record {
  takes = λ bytes x fits e.
      let g = unless_then (ltb (length bytes) n) (Some (number n bytes, drop n bytes)) x e in
      let long : n ≤ length bytes = ltb-false _ _ g.0 in
      let parts : Takes bytes (little n (number n bytes)) (drop n bytes) = record { parts = number-spelled n bytes long fits; rest_fits = IsBytes-drop n bytes fits } in
      subst (λ (y : ℕ × List ℕ). Takes bytes (little n y.0) y.1 × (y.0 < 256 ^ n)) (some_is _ x g.1) (parts, number-lt n bytes fits);
  again = λ v rest fits.
      let long : ltb (length (little n v ++ rest)) n ≡ false = le-ltb _ _ (omega (arith, length-append (little n v) rest, length-little n v)) in
      rw (long, number-little n v rest fits, drop_at (little n v) rest n (length-little n v)) refl;
}

pub ranged_exact : (n least most : ℕ) → most < 256 ^ n → IsExact (ranged n least most)
ranged_exact n least most small = record {
  takes = λ bytes x fits e.
      let a = bind_some (number_read n bytes) (λ y. cond (leb least y.0 && leb y.0 most) (Some y) None) x e in
      let g = if_then (leb least a.0.0 && leb a.0.0 most) (Some a.0) x a.2 in
      let both = and_parts (leb least a.0.0) (leb a.0.0 most) g.0 in
      subst (λ (y : ℕ × List ℕ). Takes bytes (little n y.0) y.1 × ((least ≤ y.0) × (y.0 ≤ most))) (some_is a.0 x g.1)
      (((num_exact n).takes bytes a.0 fits a.1).0, (leb-true _ _ both.0, leb-true _ _ both.1));
  again = λ v rest fits.
      let low : leb least v ≡ true = le-leb _ _ fits.0 in
      let high : leb v most ≡ true = le-leb _ _ fits.1 in
      rw ((num_exact n).again v rest (omega arith), low, high) refl;
}

pub part_exact : (n : ℕ) → IsExact (part n)
part_exact n = record {
  takes = λ bytes x fits e.
      let g = unless_then (ltb (length bytes) n) (Some (take n bytes, drop n bytes)) x e in
      let long : n ≤ length bytes = ltb-false _ _ g.0 in
      let parts : Takes bytes (take n bytes) (drop n bytes) = record { parts = sym (take-append-drop n bytes); rest_fits = IsBytes-drop n bytes fits } in
      subst (λ (y : List ℕ × List ℕ). Takes bytes y.0 y.1 × (length y.0 ≡ n)) (some_is _ x g.1) (parts, omega (arith, length-take n bytes));
  again = λ v rest len.
      let long : ltb (length (v ++ rest)) n ≡ false = le-ltb _ _ (omega (arith, length-append v rest)) in
      rw (long, take_at v rest n len, drop_at v rest n len) refl;
}

pub zeros_are : (bytes : List ℕ) → is_zero bytes ≡ true → bytes ≡ zeros (length bytes)
unfolding zeros
zeros_are [] e = refl
zeros_are (byte ∷ bytes) e =
    let both = and_parts (eqb byte 0) (is_zero bytes) e in
    ap (λ (b : ℕ). b ∷ bytes) (eqb-true _ _ both.0) ∙ ap (λ (r : List ℕ). 0 ∷ r) (zeros_are bytes both.1)

pub is_zero-zeros : (n : ℕ) → is_zero (zeros n) ≡ true
unfolding zeros
is_zero-zeros zero = refl
is_zero-zeros (suc n) = is_zero-zeros n

pub blank_exact : (n : ℕ) → IsExact (blank n)
blank_exact n = record {
  takes = λ bytes x fits e.
      let a = bind_some (part_at n bytes) (λ y. cond (is_zero y.0) (Some (tt, y.1)) None) x e in
      let g = if_then (is_zero a.0.0) (Some (tt, a.0.1)) x a.2 in
      let t = (part_exact n).takes bytes a.0 fits a.1 in
      let none : a.0.0 ≡ zeros n = zeros_are a.0.0 g.0 ∙ ap zeros t.1 in
      (subst (λ (y : Unit {0} × List ℕ). Takes bytes (zeros n) y.1) (some_is (tt, a.0.1) x g.1) (subst (λ (z : List ℕ). Takes bytes z a.0.1) none t.0), tt);
  again = λ v rest fits. rw ((part_exact n).again (zeros n) rest (length-zeros n), is_zero-zeros n) refl;
}

pub counted_exact : (n : ℕ) → IsExact (counted n)
counted_exact n = record {
  takes = λ bytes x fits e.
      let a = bind_some (number_read n bytes) (λ y. part_at y.0 y.1) x e in
      let first = (num_exact n).takes bytes a.0 fits a.1 in
      let second = (part_exact a.0.0).takes a.0.1 x first.0.rest_fits a.2 in
      let both = Takes-then bytes (little n a.0.0) a.0.1 x.0 x.1 first.0 second.0 in
      (subst (λ (k : ℕ). Takes bytes (little n k ++ x.0) x.1) (sym second.1) both, omega (arith, second.1, first.1));
  again = λ v rest fits.
      let regrouped : (little n (length v) ++ v) ++ rest ≡ little n (length v) ++ (v ++ rest) = append_assoc (little n (length v)) v rest in
      ap (counted_at n) regrouped ∙ rw ((num_exact n).again (length v) (v ++ rest) fits) ((part_exact (length v)).again v rest refl);
}

pub then_exact : {A B : Type 0} {f : Format A} {g : Format B} → IsExact f → IsExact g → IsExact (f ▸ g)
then_exact {A} {B} {f} {g} first second = record {
  takes = λ bytes x fits e.
      let a = bind_some (f.at bytes) (λ y. g.at y.1 >>= λ z. Some ((y.0, z.0), z.1)) x e in
      let b = bind_some (g.at a.0.1) (λ z. Some ((a.0.0, z.0), z.1)) x a.2 in
      let one = first.takes bytes a.0 fits a.1 in
      let two = second.takes a.0.1 b.0 one.0.rest_fits b.1 in
      let both = Takes-then bytes (f.text a.0.0) a.0.1 (g.text b.0.0) b.0.1 one.0 two.0 in
      subst (λ (y : (A × B) × List ℕ). Takes bytes (f.text y.0.0 ++ g.text y.0.1) y.1 × (f.Fits y.0.0 × g.Fits y.0.1)) (some_is ((a.0.0, b.0.0), b.0.1) x b.2) (both, (one.1, two.1));
  again = λ v rest fits.
      let regrouped : (f.text v.0 ++ g.text v.1) ++ rest ≡ f.text v.0 ++ (g.text v.1 ++ rest) = append_assoc (f.text v.0) (g.text v.1) rest in
      ap (then_at f.at g.at) regrouped ∙ rw (first.again v.0 (g.text v.1 ++ rest) fits.0, second.again v.1 rest fits.1) refl;
}

pub padded_exact : (n : ℕ) → n < 256 → IsExact (padded n)
padded_exact n small = record {
  takes = λ bytes x fits e.
      let a = bind_some (ranged_at 1 0 n bytes) (λ x. part_at x.0 x.1 >>= λ y. zeros_at (n - x.0) y.1 >>= λ z. Some (y.0, z.1)) x e in
      let b = bind_some (part_at a.0.0 a.0.1) (λ y. zeros_at (n - a.0.0) y.1 >>= λ z. Some (y.0, z.1)) x a.2 in
      let c = bind_some (zeros_at (n - a.0.0) b.0.1) (λ z. Some (b.0.0, z.1)) x b.2 in
      let one = (ranged_exact 1 0 n (omega arith)).takes bytes a.0 fits a.1 in
      let two = (part_exact a.0.0).takes a.0.1 b.0 one.0.rest_fits b.1 in
      let three = (blank_exact (n - a.0.0)).takes b.0.1 c.0 two.0.rest_fits c.1 in
      let rest = Takes-then a.0.1 b.0.0 b.0.1 (zeros (n - a.0.0)) c.0.1 two.0 three.0 in
      let all = Takes-then bytes (little 1 a.0.0) a.0.1 (b.0.0 ++ zeros (n - a.0.0)) c.0.1 one.0 rest in
      subst (λ (y : List ℕ × List ℕ). Takes bytes (little 1 (length y.0) ++ (y.0 ++ zeros (n - length y.0))) y.1 × (length y.0 ≤ n)) (some_is (b.0.0, c.0.1) x c.2)
      (subst (λ (k : ℕ). Takes bytes (little 1 k ++ (b.0.0 ++ zeros (n - k))) c.0.1) (sym two.1) all, omega (arith, two.1, one.1));
  again = λ v rest fits.
      let pad = zeros (n - length v) in
      let regrouped : (little 1 (length v) ++ (v ++ pad)) ++ rest ≡ little 1 (length v) ++ (v ++ (pad ++ rest)) =
      append_assoc (little 1 (length v)) (v ++ pad) rest ∙ ap (λ (r : List ℕ). little 1 (length v) ++ r) (append_assoc v pad rest) in
      ap (padded_at n) regrouped
      ∙ rw ((ranged_exact 1 0 n (omega arith)).again (length v) (v ++ (pad ++ rest)) (omega arith, fits), (part_exact (length v)).again v (pad ++ rest) refl, (blank_exact (n - length v)).again tt rest tt) refl;
}

pub whole_takes : {A : Type 0} {f : Format A} → IsExact f → (bytes : List ℕ) (v : A) → IsBytes bytes → all_of f.at bytes ≡ Some v → (bytes ≡ f.text v) × f.Fits v
whole_takes {A} {f} exact bytes v fits e =
    let a = bind_some (f.at bytes) (λ x. cond (eqb (length x.1) 0) (Some x.0) None) v e in
    let g = if_then (eqb (length a.0.1) 0) (Some a.0.0) v a.2 in
    let one = exact.takes bytes a.0 fits a.1 in
    let nothing : a.0.1 ≡ [] = nil_from_length a.0.1 (eqb-true _ _ g.0) in
    let whole : bytes ≡ f.text a.0.0 = one.0.parts ∙ ap (λ (r : List ℕ). f.text a.0.0 ++ r) nothing ∙ append-nil (f.text a.0.0) in
    subst (λ (y : A). (bytes ≡ f.text y) × f.Fits y) (some_is a.0.0 v g.1) (whole, one.1)

pub whole_again : {A : Type 0} {f : Format A} → IsExact f → (v : A) → f.Fits v → all_of f.at (f.text v) ≡ Some v
whole_again {A} {f} exact v fits =
    ap (λ (bytes : List ℕ). all_of f.at bytes) (sym (append-nil (f.text v))) ∙ rw (exact.again v [] fits) refl

-- the value that a function makes of what was read
pub made_again : {A C : Type 0} {f : Format A} → IsExact f → (make : A → C) (v : A) → f.Fits v → (all_of f.at (f.text v) >>= λ v. Some (make v)) ≡ Some (make v)
made_again exact make v fits = rw (whole_again exact v fits) refl

-- a byte in front
pub byte_again : (byte : ℕ) (rest : List ℕ) → number_read 1 (byte ∷ rest) ≡ Some (byte, rest)
unfolding number
byte_again byte rest =
    let long : ltb (length (byte ∷ rest)) 1 ≡ false = le-ltb _ _ (omega arith) in
    let same : byte + 256 * 0 ≡ byte = omega arith in
    rw long (ap (λ (n : ℕ). Some (n, rest)) same)

pub IsBytes-behind : (front bytes : List ℕ) → IsBytes (front ++ bytes) → IsBytes bytes
IsBytes-behind front bytes fits i = subst (λ (r : List ℕ). get_or r i 0 < 256) (drop_at front bytes (length front) refl) (IsBytes-drop (length front) (front ++ bytes) fits i)

pub IsBytes-front : (front bytes : List ℕ) → IsBytes (front ++ bytes) → IsBytes front
IsBytes-front front bytes fits i =
    elim (cases_lt i (length front)) [
      | inl lt ↦ rw (get_or_append_left front bytes 0 i lt) at (fits i)
      | inr le ↦ rw (get_or_past front i 0 le) (omega arith)
    ]
