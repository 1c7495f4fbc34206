-- Attributes that keep to their limits, and whether two are the same.
use Rattle.std.proofs.Common.{◌≡◌, ◌≢◌, ◌⊎◌, inl, inr, ℕ, ◌≤◌, Bool, true, Option, Some, None, IfSome, refl, sym, ap, ◌∙◌, arith}
use Rattle.std.specs.Prelude.{ℤ, pos, negsuc, unwrap_or}
use borrow.Author.Differences.{fits_in}
use Rattle.std.proofs.lemmas.Bool.{cond_both, false≢true}
use Rattle.model.specs.Attributes.{AreAttributes, ArePermissions, FitAttributes, IsTime, KeepsTime, epoch, given_attributes, mode_alone, new_attributes, set_given, set_mode, set_modified, set_owners}
use Rattle.model.specs.Laws.{AreOwners}
use Rattle.model.specs.Sessions.{IsSession, new_permissions}
use Rattle.model.specs.Touches.{touched_at}
use Rattle.model.specs.declared.attributes.Touch.{Touch}
use Rattle.model.specs.declared.attributes.Touch.TheVariants.{Data, Status}
use Rattle.model.specs.declared.attributes.Attributes.{Attributes}
use Rattle.model.specs.declared.attributes.Permissions.{Permissions}
use Rattle.model.specs.declared.limits.Limits.{Limits}
use Rattle.model.specs.declared.session.Session.{Session}
use Rattle.model.specs.declared.time.Time.{Time}
use Rattle.model.specs.declared.limits.TheConstants.{GREATEST_OWNER, MODE_BITS}
use Rattle.model.proofs.CountLemmas.{number_apart}

pub epoch_is : IsTime epoch
epoch_is = record { seconds = omega (arith, fits_in); nanoseconds = omega arith }

pub new_are : (p : Permissions) → ArePermissions p → AreAttributes (new_attributes p)
new_are p are = record { mode = are.mode; owner = are.owner; group = are.group; modified = epoch_is; changed = epoch_is; generation = omega arith }

pub new_fit : (has_attributes : Bool) (mode : ℕ) → mode ≤ MODE_BITS → FitAttributes has_attributes (new_attributes (mode_alone mode))
new_fit has_attributes mode few = record { limits = new_are (mode_alone mode) (record { mode = few; owner = omega arith; group = omega arith }); only_mode = λ none. refl }

-- where all are kept, any within the limits fit
pub kept_fit : (has_attributes : Bool) (a : Attributes) → has_attributes ≡ true → AreAttributes a → FitAttributes has_attributes a
kept_fit has_attributes a has are = record { limits = are; only_mode = λ none. absurd (false≢true (sym none ∙ has)) }

-- what a session's call makes has attributes that fit
pub permissions_fit : (limits : Limits) (said : Session) (mode : ℕ) → IsSession said → mode ≤ MODE_BITS → FitAttributes limits.has_attributes (new_attributes (new_permissions limits said mode))
permissions_fit limits said mode session few =
    let p : Permissions = record { mode = mode; owner = said.owner; group = said.group } in
    cond_both limits.has_attributes p (mode_alone mode) (λ (q : Permissions). FitAttributes limits.has_attributes (new_attributes q))
    (λ has. kept_fit limits.has_attributes (new_attributes p) has (new_are p (record { mode = few; owner = session.owner; group = session.group })))
    (λ none. new_fit limits.has_attributes mode few)

pub set_fit : (has_attributes : Bool) (mode : ℕ) (a : Attributes) → mode ≤ MODE_BITS → FitAttributes has_attributes a → FitAttributes has_attributes (set_mode mode a)
set_fit has_attributes mode a few good = record {
  limits = record {
    mode = few;
    owner = good.limits.owner;
    group = good.limits.group;
    modified = good.limits.modified;
    changed = good.limits.changed;
    generation = good.limits.generation;
  };
  only_mode = λ none. ap (set_mode mode) (good.only_mode none);
}

-- attributes that fit do so with what is given, where that fits by itself
pub given_fit : (has_attributes : Bool) (p : Permissions) (modified : Time) (a : Attributes) → FitAttributes has_attributes (given_attributes p modified) → FitAttributes has_attributes a → FitAttributes has_attributes (set_given p modified a)
given_fit has_attributes p modified a given good = record {
  limits = record {
    mode = given.limits.mode;
    owner = given.limits.owner;
    group = given.limits.group;
    modified = given.limits.modified;
    changed = good.limits.changed;
    generation = good.limits.generation;
  };
  only_mode = λ none. ap (set_given p modified) (good.only_mode none) ∙ given.only_mode none;
}

owner_within : (owner : Option ℕ) (old : ℕ) → IfSome owner (λ n. n ≤ GREATEST_OWNER) → old ≤ GREATEST_OWNER → unwrap_or owner old ≤ GREATEST_OWNER
owner_within None old given was = was
owner_within (Some n) old given was = given

-- where all are kept, attributes that fit do so with other owners, and with another time of data
pub owners_fit : (has_attributes : Bool) (owner group : Option ℕ) (a : Attributes) → has_attributes ≡ true → AreOwners owner group → FitAttributes has_attributes a → FitAttributes has_attributes (set_owners owner group a)
owners_fit has_attributes owner group a has few good =
    kept_fit has_attributes (set_owners owner group a) has (record {
      mode = good.limits.mode;
      owner = owner_within owner a.owner few.0 good.limits.owner;
      group = owner_within group a.group few.1 good.limits.group;
      modified = good.limits.modified;
      changed = good.limits.changed;
      generation = good.limits.generation;
    })

pub modified_fit : (has_attributes : Bool) (time : Time) (a : Attributes) → has_attributes ≡ true → IsTime time → FitAttributes has_attributes a → FitAttributes has_attributes (set_modified time a)
modified_fit has_attributes time a has is good =
    kept_fit has_attributes (set_modified time a) has (record {
      mode = good.limits.mode;
      owner = good.limits.owner;
      group = good.limits.group;
      modified = is;
      changed = good.limits.changed;
      generation = good.limits.generation;
    })

-- attributes that fit do so with another time, where the file system keeps times
pub touched_fit : (has_attributes : Bool) (time : Time) (touch : Touch) (a : Attributes) → KeepsTime has_attributes (Some time) → FitAttributes has_attributes a → FitAttributes has_attributes (touched_at time touch a)
touched_fit has_attributes time Data a keeps fit = record {
  limits = record { mode = fit.limits.mode; owner = fit.limits.owner; group = fit.limits.group; modified = keeps.1; changed = keeps.1; generation = fit.limits.generation };
  only_mode = λ none. absurd (false≢true (sym none ∙ keeps.0));
}
touched_fit has_attributes time Status a keeps fit = record {
  limits = record { mode = fit.limits.mode; owner = fit.limits.owner; group = fit.limits.group; modified = fit.limits.modified; changed = keeps.1; generation = fit.limits.generation };
  only_mode = λ none. absurd (false≢true (sym none ∙ keeps.0));
}

-- two facts that hold or not do so together or not
both_or_not : {P Q : Type 0} → P ⊎ (¬ P) → Q ⊎ (¬ Q) → (P × Q) ⊎ (¬ (P × Q))
both_or_not (inl p) (inl q) = inl (p, q)
both_or_not (inl p) (inr not_q) = inr (λ both. not_q both.1)
both_or_not (inr not_p) q = inr (λ both. not_p both.0)

integer_apart : (x y : ℤ) → (x ≡ y) ⊎ (x ≢ y)
integer_apart (pos m) (pos n) = elim (number_apart m n) [ inl e ↦ inl (ap pos e) | inr e ↦ inr (λ same. e (cc)) ]
integer_apart (negsuc m) (negsuc n) = elim (number_apart m n) [ inl e ↦ inl (ap negsuc e) | inr e ↦ inr (λ same. e (cc)) ]
integer_apart (pos m) (negsuc n) = inr (λ e. cc)
integer_apart (negsuc m) (pos n) = inr (λ e. cc)

time_apart : (x y : Time) → (x ≡ y) ⊎ (x ≢ y)
time_apart x y =
    elim (both_or_not (integer_apart x.seconds y.seconds) (number_apart x.nanoseconds y.nanoseconds)) [
      | inl same ↦ inl (λ i. record { seconds = same.0 i; nanoseconds = same.1 i })
      | inr other ↦ inr (λ e. other (ap (λ (t : Time). t.seconds) e, ap (λ (t : Time). t.nanoseconds) e))
    ]

pub attributes_apart : (x y : Attributes) → (x ≡ y) ⊎ (x ≢ y)
attributes_apart x y =
    elim (both_or_not (both_or_not (number_apart x.mode y.mode) (both_or_not (number_apart x.owner y.owner) (number_apart x.group y.group)))
    (both_or_not (both_or_not (time_apart x.modified y.modified) (time_apart x.changed y.changed)) (number_apart x.generation y.generation))) [
      | inl same ↦ inl (λ i. record {
        mode = same.0.0 i;
        owner = same.0.1.0 i;
        group = same.0.1.1 i;
        modified = same.1.0.0 i;
        changed = same.1.0.1 i;
        generation = same.1.1 i;
      })
      | inr other ↦ inr (λ e. other (
        (ap (λ (a : Attributes). a.mode) e, (ap (λ (a : Attributes). a.owner) e, ap (λ (a : Attributes). a.group) e)),
        ((ap (λ (a : Attributes). a.modified) e, ap (λ (a : Attributes). a.changed) e), ap (λ (a : Attributes). a.generation) e),
      ))
    ]
