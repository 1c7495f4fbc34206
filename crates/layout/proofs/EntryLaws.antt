-- An entry of a directory: what is read is spelled so, and what is spelled so is read, whatever stands behind it. And blocks
-- of entries: their first entry is what their bytes begin with.
use Rattle.std.proofs.Common.{◌≡◌, ◌≢◌, ℕ, ◌+◌, ◌^◌, ◌<◌, ◌≤◌, ◌↔◌, List, [], ◌∷◌, ◌++◌, length, Some, refl, sym, ap, subst, ◌∙◌, append_assoc, arith}
use Rattle.std.proofs.lemmas.List.{length-append, append_cancel_left}
use Rattle.layout.specs.Bytes.{little, number, zeros, IsBytes}
use Rattle.layout.specs.Format.{counted}
use Rattle.layout.specs.Directory.{Named, entry_fields, entry_bytes, IsEntry, HoldsEntries, entry_in}
use Rattle.layout.proofs.Formats.{bind_some, some_is, IsExact, num_exact, counted_exact, then_exact}
use Rattle.layout.proofs.NumberLaws.{length-little, number-little}
use Rattle.layout.proofs.ZeroLaws.{number-zeros}

entry_exact : IsExact entry_fields
entry_exact = then_exact (num_exact 4) (counted_exact 1)

pub entry_takes : (bytes : List ℕ) (e : Named) → IsBytes bytes → entry_in bytes ≡ Some e → (rest : List ℕ) × (bytes ≡ entry_bytes e ++ rest)
unfolding entry_in
entry_takes bytes e fits read =
    let w = bind_some (entry_fields.at bytes) (λ x. Some (record { number = x.0.0; name = x.0.1 })) e read in
    let t = entry_exact.takes bytes w.0 fits w.1 in
    (w.0.1, t.0.parts ∙ ap (λ (n : Named). entry_bytes n ++ w.0.1) (some_is (record { number = w.0.0.0; name = w.0.0.1 }) e w.2))

pub entry_again : (inodes : ℕ) (e : Named) (rest : List ℕ) → inodes ≤ 2 ^ 32 → IsEntry inodes e → entry_in (entry_bytes e ++ rest) ≡ Some e
unfolding entry_in
entry_again inodes e rest limit is =
    rw (entry_exact.again (e.number, e.name) rest (omega (arith, is.below), omega (arith, is.name.short))) refl

-- a name is no longer than its length's byte tells
pub entry_short : (bytes : List ℕ) (e : Named) → IsBytes bytes → entry_in bytes ≡ Some e → length e.name ≤ 255
unfolding entry_in
entry_short bytes e fits read =
    let w = bind_some (entry_fields.at bytes) (λ x. Some (record { number = x.0.0; name = x.0.1 })) e read in
    let t = entry_exact.takes bytes w.0 fits w.1 in
    let same : w.0.0.1 ≡ e.name = ap (λ (n : Named). n.name) (some_is (record { number = w.0.0.0; name = w.0.0.1 }) e w.2) in
    omega (arith, t.1.1, ap length same)

pub length-entry_bytes : (e : Named) → length (entry_bytes e) ≡ 5 + length e.name
length-entry_bytes e = simp (length-append, length-little) (omega arith)

-- ---- entries one behind the other

-- an entry is not zeros
pub not_zeros : (inodes : ℕ) (bytes rest : List ℕ) (e : Named) (count : ℕ) → inodes ≤ 2 ^ 32 → IsEntry inodes e → bytes ≡ entry_bytes e ++ rest → bytes ≢ zeros count
not_zeros inodes bytes rest e count limit is spelled none =
    let regrouped : bytes ≡ little 4 e.number ++ ((counted 1).text e.name ++ rest) = spelled ∙ append_assoc (little 4 e.number) ((counted 1).text e.name) rest in
    let first : number 4 bytes ≡ e.number = ap (number 4) regrouped ∙ number-little 4 e.number ((counted 1).text e.name ++ rest) (omega (arith, is.below)) in
    let nothing : number 4 bytes ≡ 0 = ap (number 4) none ∙ number-zeros count in
    omega (arith, is.ordinary)

-- bytes that begin with a number are not zeros
pub numbered : (bytes rest : List ℕ) (e : Named) (count : ℕ) → e.number < 2 ^ 32 → 1 ≤ e.number → bytes ≡ entry_bytes e ++ rest → bytes ≢ zeros count
numbered bytes rest e count below some spelled none =
    let regrouped : bytes ≡ little 4 e.number ++ ((counted 1).text e.name ++ rest) = spelled ∙ append_assoc (little 4 e.number) ((counted 1).text e.name) rest in
    let first : number 4 bytes ≡ e.number = ap (number 4) regrouped ∙ number-little 4 e.number ((counted 1).text e.name ++ rest) below in
    let nothing : number 4 bytes ≡ 0 = ap (number 4) none ∙ number-zeros count in
    omega (arith, some, first, nothing)

-- entries that begin with none are none
pub none_is : (inodes : ℕ) (bytes : List ℕ) (entries : List Named) → inodes ≤ 2 ^ 32 → HoldsEntries inodes bytes entries → ((e : Named) → IsEntry inodes e → entry_in bytes ≡ Some e → ⊥) → bytes ≡ zeros (length bytes)
none_is inodes bytes [] limit holds never = holds
none_is inodes bytes (e ∷ entries) limit holds never = absurd (never e holds.1 (ap entry_in holds.2 ∙ entry_again inodes e holds.0 limit holds.1))

-- what entries begin with is one of the image
pub first_is : (inodes : ℕ) (bytes : List ℕ) (entries : List Named) (e : Named) → inodes ≤ 2 ^ 32 → HoldsEntries inodes bytes entries → entry_in bytes ≡ Some e → bytes ≢ zeros (length bytes) → IsEntry inodes e
first_is inodes bytes [] e limit holds read some = absurd (some holds)
first_is inodes bytes (f ∷ entries) e limit holds read some = subst (IsEntry inodes) (some_is f e (sym (ap entry_in holds.2 ∙ entry_again inodes f holds.0 limit holds.1) ∙ read)) holds.1

-- the first of the entries, where there are some
pub record First (inodes : ℕ) (bytes : List ℕ) : Type 0 where
  pub entry : Named
  pub rest : List ℕ
  pub is : IsEntry inodes entry
  pub spelled : bytes ≡ entry_bytes entry ++ rest
  pub read : entry_in bytes ≡ Some entry
  pub entries : List Named
  pub holds : HoldsEntries inodes rest entries

pub first_entry : (inodes : ℕ) (bytes : List ℕ) (entries : List Named) → inodes ≤ 2 ^ 32 → HoldsEntries inodes bytes entries → bytes ≢ zeros (length bytes) → First inodes bytes
first_entry inodes bytes [] limit holds some = absurd (some holds)
first_entry inodes bytes (e ∷ entries) limit holds some =
    record { entry = e; rest = holds.0; is = holds.1; spelled = holds.2; read = ap entry_in holds.2 ∙ entry_again inodes e holds.0 limit holds.1; entries = entries; holds = holds.3 }

-- bytes that hold some entries
abbrev pub HoldsSome : ℕ → List ℕ → Type 0
HoldsSome inodes bytes = (entries : List Named) × HoldsEntries inodes bytes entries

-- bytes behind an entry are entries exactly where all of them are
pub holds_more : (inodes : ℕ) (bytes rest : List ℕ) (e : Named) → inodes ≤ 2 ^ 32 → IsEntry inodes e → bytes ≡ entry_bytes e ++ rest → HoldsSome inodes bytes ↔ HoldsSome inodes rest
holds_more inodes bytes rest e limit is spelled = (
  (λ all.
      let f = first_entry inodes bytes all.0 limit all.1 (not_zeros inodes bytes rest e (length bytes) limit is spelled) in
      let same : f.entry ≡ e = some_is f.entry e (sym f.read ∙ ap entry_in spelled ∙ entry_again inodes e rest limit is) in
      let behind : f.rest ≡ rest = append_cancel_left (entry_bytes e) f.rest rest (ap (λ (n : Named). entry_bytes n ++ f.rest) (sym same) ∙ sym f.spelled ∙ spelled) in
      (f.entries, subst (λ (r : List ℕ). HoldsEntries inodes r f.entries) behind f.holds)),
  (λ others. (e ∷ others.0, (rest, is, spelled, others.1))),
)

-- no entries are left in zeros
pub none_left : (inodes : ℕ) (bytes : List ℕ) (entries : List Named) → inodes ≤ 2 ^ 32 → HoldsEntries inodes bytes entries → bytes ≡ zeros (length bytes) → entries ≡ []
none_left inodes bytes [] limit holds none = refl
none_left inodes bytes (e ∷ entries) limit holds none = absurd (not_zeros inodes bytes holds.0 e (length bytes) limit holds.1 holds.2 none)

-- the entries behind the first
pub record Behind (inodes : ℕ) (rest : List ℕ) (e : Named) (entries : List Named) : Type 0 where
  pub others : List Named
  pub are : entries ≡ e ∷ others
  pub holds : HoldsEntries inodes rest others

pub one_first : (inodes : ℕ) (bytes rest : List ℕ) (e : Named) (entries : List Named) → inodes ≤ 2 ^ 32 → IsEntry inodes e → bytes ≡ entry_bytes e ++ rest → HoldsEntries inodes bytes entries → Behind inodes rest e entries
one_first inodes bytes rest e [] limit is spelled holds = absurd (not_zeros inodes bytes rest e (length bytes) limit is spelled holds)
one_first inodes bytes rest e (f ∷ entries) limit is spelled holds =
    let same : f ≡ e = some_is f e (sym (entry_again inodes f holds.0 limit holds.1) ∙ ap entry_in (sym holds.2 ∙ spelled) ∙ entry_again inodes e rest limit is) in
    let behind : holds.0 ≡ rest = append_cancel_left (entry_bytes e) holds.0 rest (ap (λ (n : Named). entry_bytes n ++ holds.0) (sym same) ∙ sym holds.2 ∙ spelled) in
    record { others = entries; are = ap (λ (n : Named). n ∷ entries) same; holds = subst (λ (r : List ℕ). HoldsEntries inodes r entries) behind holds.3 }

-- bytes hold one row of entries at most
pub entries_once : (inodes : ℕ) (bytes : List ℕ) (es fs : List Named) → inodes ≤ 2 ^ 32 → HoldsEntries inodes bytes es → HoldsEntries inodes bytes fs → es ≡ fs
entries_once inodes bytes [] fs limit one other = sym (none_left inodes bytes fs limit other one)
entries_once inodes bytes (e ∷ es) fs limit one other =
    let b = one_first inodes bytes one.0 e fs limit one.1 one.2 other in
    ap (λ (l : List Named). e ∷ l) (entries_once inodes one.0 es b.others limit one.3 b.holds) ∙ sym b.are
