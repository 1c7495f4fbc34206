-- Names and texts, which a zero byte ends.
use Rattle.std.proofs.Common.{◌≡◌, ◌≢◌, ℕ, zero, suc, ◌+◌, ◌-◌, Bool, true, false, cond, eqb, List, [], ◌∷◌, ◌++◌, length, take, drop, Option, Some, None, All, refl, ap, subst, ◌∙◌, add-one, arith}
use Rattle.std.proofs.lemmas.Bool.{eqb-true, eqb-false, ne_eqb}
use Rattle.std.proofs.lemmas.List.{take_all, length-drop}
use Rattle.std.proofs.lemmas.List.Elements.{All-nil, All-cons, All-head, All-tail}
use Rattle.memchr.specs.Find.{IsFirstByte, is_byte}
use Rattle.layout.specs.Bytes.{IsBytes}
use Rattle.layout.proofs.Formats.{IsExact, Takes, bind_some, some_is}
use Rattle.fuse.specs.Names.{ended_at, ended}

-- where no byte is 0, no name is ended
pub ended_none : (bytes : List ℕ) → IsFirstByte (is_byte 0) bytes None → ended_at bytes ≡ None
ended_none [] h = refl
ended_none (byte ∷ bytes) h =
    let other : eqb byte 0 ≡ false = ne_eqb byte 0 (λ is. h 0 (omega arith) (omega arith) (ap (λ (b : ℕ). eqb b 0) is)) in
    let behind : ended_at bytes ≡ None = ended_none bytes (λ k low high is. h (suc k) (omega arith) (omega (arith, high)) is) in
    rw (other, behind) refl

-- the first byte that is 0 ends the name
pub ended_some : (bytes : List ℕ) (k : ℕ) → IsFirstByte (is_byte 0) bytes (Some k) → ended_at bytes ≡ Some (take k bytes, drop (suc k) bytes)
ended_some [] k h = absurd (omega (arith, h.0.high))
ended_some (byte ∷ bytes) zero h = rw h.1 refl
ended_some (byte ∷ bytes) (suc k) h =
    let other : eqb byte 0 ≡ false = ne_eqb byte 0 (λ is. h.0.before 0 (omega arith) (omega arith) (ap (λ (b : ℕ). eqb b 0) is)) in
    let first : IsFirstByte (is_byte 0) bytes (Some k) =
    (record { low = omega arith; high = omega (arith, h.0.high); before = λ q low high is. h.0.before (suc q) (omega arith) (omega (arith, high)) is }, h.1) in
    rw (other, ended_some bytes k first) refl

-- the rest of the bytes
pub rest_is : (bytes : List ℕ) (k : ℕ) → take (length bytes - (k + 1)) (drop (k + 1) bytes) ≡ drop (suc k) bytes
rest_is bytes k = take_all (length bytes - (k + 1)) (drop (k + 1) bytes) (omega (arith, length-drop (k + 1) bytes)) ∙ rw add-one refl

either : {A P : Type 0} (b : Bool) (x y : Option A) (z : A) → cond b x y ≡ Some z → (b ≡ true → x ≡ Some z → P) → (b ≡ false → y ≡ Some z → P) → P
either true x y z e f g = f refl e
either false x y z e f g = g refl e

abbrev IsEnded : List ℕ → List ℕ × List ℕ → Type 0
IsEnded bytes x = Takes bytes (x.0 ++ 0 ∷ []) x.1 × All (λ byte. byte ≢ 0) x.0

ended_takes : (bytes : List ℕ) (x : List ℕ × List ℕ) → IsBytes bytes → ended_at bytes ≡ Some x → IsEnded bytes x
ended_takes [] x fits e = absurd cc
ended_takes (byte ∷ bytes) x fits e =
    let behind : IsBytes bytes = λ i. fits (suc i) in
    either (eqb byte 0) _ _ x e
    (λ is e. subst (IsEnded (byte ∷ bytes)) (some_is ([], bytes) x e)
    (record { parts = ap (λ (b : ℕ). b ∷ bytes) (eqb-true byte 0 is); rest_fits = behind }, All-nil (λ b. b ≢ 0)))
    (λ other e.
    let w = bind_some (ended_at bytes) (λ y. Some (byte ∷ y.0, y.1)) x e in
    let t = ended_takes bytes w.0 behind w.1 in
    subst (IsEnded (byte ∷ bytes)) (some_is (byte ∷ w.0.0, w.0.1) x w.2)
    (record { parts = ap (λ (r : List ℕ). byte ∷ r) t.0.parts; rest_fits = t.0.rest_fits }, All-cons (λ b. b ≢ 0) byte w.0.0 (eqb-false byte 0 other) t.1))

ended_again : (name rest : List ℕ) → All (λ byte. byte ≢ 0) name → ended_at ((name ++ 0 ∷ []) ++ rest) ≡ Some (name, rest)
ended_again [] rest fits = refl
ended_again (byte ∷ name) rest fits =
    let other : eqb byte 0 ≡ false = ne_eqb byte 0 (All-head (λ b. b ≢ 0) byte name fits) in
    rw (other, ended_again name rest (All-tail (λ b. b ≢ 0) byte name fits)) refl

pub ended_exact : IsExact ended
ended_exact = record { takes = ended_takes; again = ended_again }
