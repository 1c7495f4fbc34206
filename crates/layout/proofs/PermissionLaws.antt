-- What a record tells of permissions and of a time of data: what is read is spelled so, and what is
-- spelled so is read.
use Rattle.std.proofs.Common.{◌≡◌, ℕ, ◌^◌, ◌<◌, Bool, true, false, List, ◌++◌, Some, refl, sym, ap, subst, arith}
use Rattle.std.specs.Prelude.{IsFalse}
use borrow.Author.Differences.{fits_in}
use Rattle.std.proofs.lemmas.Bool.{false≢true}
use Rattle.model.specs.Attributes.{ArePermissions, FitAttributes, IsTime, epoch, given_attributes, mode_alone}
use Rattle.model.specs.declared.attributes.Attributes.{Attributes}
use Rattle.model.specs.declared.attributes.Permissions.{Permissions}
use Rattle.model.specs.declared.limits.TheConstants.{MODE_BITS}
use Rattle.model.specs.declared.time.Time.{Time}
use Rattle.layout.specs.Bytes.{IsBytes}
use Rattle.layout.specs.Format.{mode_bits}
use Rattle.layout.specs.Permissions.{modified_bytes, modified_read, permission_bytes, permission_fields, permissions_read}
use Rattle.layout.proofs.AttributeLaws.{time_read_again, time_read_takes}
use Rattle.layout.proofs.Formats.{Takes, IsExact, bind_some, some_is, num_exact, ranged_exact, then_exact}

mode_exact : IsExact mode_bits
mode_exact = ranged_exact 2 0 MODE_BITS (omega arith)

permissions_exact : IsExact permission_fields
permissions_exact = then_exact mode_exact (then_exact (num_exact 4) (num_exact 4))

-- permissions that an object may have in an image whose objects have attributes, or in another
pub record FitPermissions (has_attributes : Bool) (p : Permissions) : Type 0 where
  pub limits : ArePermissions p
  pub only_mode : IsFalse has_attributes → p ≡ mode_alone p.mode

-- and the time of its data
pub record FitsModified (has_attributes : Bool) (time : Time) : Type 0 where
  pub limits : IsTime time
  pub none : IsFalse has_attributes → time ≡ epoch

epoch_is_time : IsTime epoch
epoch_is_time = record { seconds = omega (arith, fits_in); nanoseconds = omega arith }

-- ---- what fits, as attributes

pub given_fit : (has_attributes : Bool) (p : Permissions) (time : Time) → FitPermissions has_attributes p → FitsModified has_attributes time → FitAttributes has_attributes (given_attributes p time)
given_fit has_attributes p time permissions modified = record {
  limits = record {
    mode = permissions.limits.mode;
    owner = permissions.limits.owner;
    group = permissions.limits.group;
    modified = modified.limits;
    changed = epoch_is_time;
    generation = omega arith;
  };
  only_mode = λ plain i. given_attributes (permissions.only_mode plain i) (modified.none plain i);
}

pub permissions_given : (has_attributes : Bool) (p : Permissions) (time : Time) → FitAttributes has_attributes (given_attributes p time) → FitPermissions has_attributes p
permissions_given has_attributes p time fit = record {
  limits = record { mode = fit.limits.mode; owner = fit.limits.owner; group = fit.limits.group };
  only_mode = λ plain. ap (λ (a : Attributes). record { mode = p.mode; owner = a.owner; group = a.group }) (fit.only_mode plain);
}

pub modified_given : (has_attributes : Bool) (p : Permissions) (time : Time) → FitAttributes has_attributes (given_attributes p time) → FitsModified has_attributes time
modified_given has_attributes p time fit = record {
  limits = fit.limits.modified;
  none = λ plain. ap (λ (a : Attributes). a.modified) (fit.only_mode plain);
}

pub epoch_fits : (has_attributes : Bool) → FitsModified has_attributes epoch
epoch_fits has_attributes = record { limits = epoch_is_time; none = λ plain. refl }

-- ---- permissions in front of bytes

permissions_of_fields : ℕ × (ℕ × ℕ) → Permissions
permissions_of_fields v = record { mode = v.0; owner = v.1.0; group = v.1.1 }

pub permissions_take : (has_attributes : Bool) (bytes : List ℕ) (x : Permissions × List ℕ) → IsBytes bytes → permissions_read has_attributes bytes ≡ Some x
    → Takes bytes (permission_bytes has_attributes x.0) x.1 × FitPermissions has_attributes x.0
unfolding permissions_read
permissions_take false bytes x fits e =
    let w = bind_some (mode_bits.at bytes) (λ y. Some (mode_alone y.0, y.1)) x e in
    let t = mode_exact.takes bytes w.0 fits w.1 in
    let fit : FitPermissions false (mode_alone w.0.0) = record {
      limits = record { mode = t.1.1; owner = omega arith; group = omega arith };
      only_mode = λ plain. refl;
    } in
    subst (λ (y : Permissions × List ℕ). Takes bytes (permission_bytes false y.0) y.1 × FitPermissions false y.0) (some_is (mode_alone w.0.0, w.0.1) x w.2) (t.0, fit)
permissions_take true bytes x fits e =
    let w = bind_some (permission_fields.at bytes) (λ y. Some (record { mode = y.0.0; owner = y.0.1.0; group = y.0.1.1 }, y.1)) x e in
    let t = permissions_exact.takes bytes w.0 fits w.1 in
    let p : Permissions = record { mode = w.0.0.0; owner = w.0.0.1.0; group = w.0.0.1.1 } in
    let fit : FitPermissions true p = record {
      limits = record { mode = t.1.0.1; owner = omega (arith, t.1.1.0); group = omega (arith, t.1.1.1) };
      only_mode = λ plain. absurd (false≢true (sym plain));
    } in
    subst (λ (y : Permissions × List ℕ). Takes bytes (permission_bytes true y.0) y.1 × FitPermissions true y.0) (some_is (p, w.0.1) x w.2) (t.0, fit)

pub permissions_again : (has_attributes : Bool) (p : Permissions) (rest : List ℕ) → FitPermissions has_attributes p
    → permissions_read has_attributes (permission_bytes has_attributes p ++ rest) ≡ Some (p, rest)
unfolding permissions_read
permissions_again false p rest fit =
    rw (mode_exact.again p.mode rest (omega arith, fit.limits.mode)) (ap (λ (q : Permissions). Some (q, rest)) (sym (fit.only_mode refl)))
permissions_again true p rest fit =
    let owner : p.owner < 256 ^ 4 = omega (arith, fit.limits.owner) in
    let group : p.group < 256 ^ 4 = omega (arith, fit.limits.group) in
    rw (permissions_exact.again (p.mode, (p.owner, p.group)) rest ((omega arith, fit.limits.mode), (owner, group))) refl

-- ---- a time of data in front of bytes

pub modified_takes : (has_attributes : Bool) (bytes : List ℕ) (x : Time × List ℕ) → IsBytes bytes → modified_read has_attributes bytes ≡ Some x
    → Takes bytes (modified_bytes has_attributes x.0) x.1 × FitsModified has_attributes x.0
unfolding modified_read
modified_takes false bytes x fits e =
    subst (λ (y : Time × List ℕ). Takes bytes (modified_bytes false y.0) y.1 × FitsModified false y.0) (some_is (epoch, bytes) x e)
    (record { parts = refl; rest_fits = fits }, epoch_fits false)
modified_takes true bytes x fits e =
    let t = time_read_takes bytes x fits e in
    (t.0, record { limits = t.1; none = λ plain. absurd (false≢true (sym plain)) })

pub modified_again : (has_attributes : Bool) (time : Time) (rest : List ℕ) → FitsModified has_attributes time
    → modified_read has_attributes (modified_bytes has_attributes time ++ rest) ≡ Some (time, rest)
unfolding modified_read
modified_again false time rest fit = ap (λ (t : Time). Some (t, rest)) (sym (fit.none refl))
modified_again true time rest fit = time_read_again time rest fit.limits
