-- What an inode tells of attributes: what is read is spelled so, and what is spelled so is read.
use Rattle.std.proofs.Common.{◌≡◌, ℕ, ◌^◌, ◌<◌, List, ◌++◌, Some, refl, sym, subst, arith}
use Rattle.std.specs.Prelude.{ℤ, FitsSigned}
use Rattle.std.specs.Int.{cast_signed, cast_unsigned, w64}
use Rattle.std.proofs.Math.Facts.{sfits_to_z}
use mir.Facts.{Fits-of_z}
use Rattle.std.proofs.lemmas.Int.{of_z-to_z, to_z-of_z}
use Rattle.model.specs.Attributes.{AreAttributes, IsTime}
use Rattle.model.specs.declared.attributes.Attributes.{Attributes}
use Rattle.model.specs.declared.limits.TheConstants.{MOST_NANOSECONDS}
use Rattle.model.specs.declared.time.Time.{Time}
use Rattle.layout.specs.Attributes.{Others, attribute_fields, attributes_from, others_told, time_fields, time_of, time_read, time_told}
use Rattle.layout.specs.Bytes.{IsBytes}
use Rattle.layout.proofs.Formats.{Takes, IsExact, bind_some, some_is, num_exact, ranged_exact, blank_exact, then_exact}

time_exact : IsExact time_fields
time_exact = then_exact (num_exact 8) (ranged_exact 4 0 MOST_NANOSECONDS (omega arith))

pub attributes_exact : IsExact attribute_fields
attributes_exact =
    then_exact (blank_exact 3) (then_exact (num_exact 4) (then_exact (num_exact 4) (then_exact time_exact (then_exact time_exact (then_exact (num_exact 8) (blank_exact 4))))))

-- a time and its numbers
numbers_again : (v : ℕ × ℕ) → time_fields.Fits v → time_told (time_of v) ≡ v
numbers_again v fits = λ i. (of_z-to_z w64 v.0 (omega (arith, fits.0)) i, v.1)

time_again : (t : Time) → IsTime t → time_of (time_told t) ≡ t
time_again t is = λ i. record { seconds = to_z-of_z w64 t.seconds is.seconds i; nanoseconds = t.nanoseconds }

unsigned_small : (z : ℤ) → FitsSigned w64 z → cast_unsigned w64 z < 256 ^ 8
unsigned_small z fits = let small : cast_unsigned w64 z < 2 ^ 64 = (Fits-of_z {w = w64} {z = z} fits).fits in omega (arith, small)

time_fits : (t : Time) → IsTime t → time_fields.Fits (time_told t)
time_fits t is = (unsigned_small t.seconds is.seconds, (omega arith, is.nanoseconds))

-- a time alone, in front of bytes
pub time_read_again : (t : Time) (rest : List ℕ) → IsTime t → time_read (time_fields.text (time_told t) ++ rest) ≡ Some (t, rest)
time_read_again t rest is = rw (time_exact.again (time_told t) rest (time_fits t is), time_again t is) refl

seconds_fit : (n : ℕ) → n < 256 ^ 8 → FitsSigned w64 (cast_signed w64 n)
seconds_fit n small = sfits_to_z {w = w64} (record { fits = omega (arith, small) })

pub time_read_takes : (bytes : List ℕ) (x : Time × List ℕ) → IsBytes bytes → time_read bytes ≡ Some x → Takes bytes (time_fields.text (time_told x.0)) x.1 × IsTime x.0
time_read_takes bytes x fits e =
    let w = bind_some (time_fields.at bytes) (λ y. Some (time_of y.0, y.1)) x e in
    let t = time_exact.takes bytes w.0 fits w.1 in
    let is : IsTime (time_of w.0.0) = record { seconds = seconds_fit w.0.0.0 t.1.0; nanoseconds = t.1.1.1 } in
    subst (λ (y : Time × List ℕ). Takes bytes (time_fields.text (time_told y.0)) y.1 × IsTime y.0) (some_is (time_of w.0.0, w.0.1) x w.2)
    (subst (λ (v : ℕ × ℕ). Takes bytes (time_fields.text v) w.0.1) (sym (numbers_again w.0.0 t.1)) t.0, is)

pub others_again : (mode : ℕ) (v : Others) → attribute_fields.Fits v → others_told (attributes_from mode v) ≡ v
others_again mode v fits =
    λ i. (tt, (v.1.0, (v.1.1.0, (numbers_again v.1.1.1.0 fits.1.1.1.0 i, (numbers_again v.1.1.1.1.0 fits.1.1.1.1.0 i, (v.1.1.1.1.1.0, tt))))))

pub attributes_again : (a : Attributes) → AreAttributes a → attributes_from a.mode (others_told a) ≡ a
attributes_again a are = λ i. record a { modified = time_again a.modified are.modified i; changed = time_again a.changed are.changed i }

pub others_fit : (a : Attributes) → AreAttributes a → attribute_fields.Fits (others_told a)
others_fit a are =
    let owner : a.owner < 256 ^ 4 = omega (arith, are.owner) in
    let group : a.group < 256 ^ 4 = omega (arith, are.group) in
    let generation : a.generation < 256 ^ 8 = omega (arith, are.generation) in
    (tt, (owner, (group, (time_fits a.modified are.modified, (time_fits a.changed are.changed, (generation, tt))))))
