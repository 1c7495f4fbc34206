-- What was found first.
use Rattle.std.proofs.Common.{◌≡◌, ℕ, List, Bool, true, false, Option, Some, None, Result, Ok, Err, length, refl, inl, subst, sym, ap, ◌∙◌}
use Rattle.std.specs.Prelude.{IfErr, IfSome, if◌then◌else◌, nat_le}
use Rattle.station.specs.Images.{Images}
use Rattle.station.specs.Calls.{OnlyReads}
use Rattle.station.specs.Moments.{HasGrown, IsSameStation, Meaning}
use Rattle.station.proofs.Moments.{grown_since, may_grow_twice, same_twice, still_left, unchanged_twice}
use Rattle.layout.specs.Opens.{IsNewest}
use Rattle.layout.specs.declared.TheConstants.{SLOT_A, SLOT_B}
use Rattle.layout.specs.declared.root.Root.{Root}
use Rattle.images.specs.Faults.{HasRoots}
use Rattle.images.specs.Roots.{Whole}
use Rattle.loading.specs.Slots.{FitsStation, HasNoRoot}
use Rattle.checker.specs.Checks.{AreFindings, Settles}
use Rattle.checker.specs.Findings.{IsFinding, IsFindingUnder, TellsRoots, fault_number, first_of}
use Rattle.checker.specs.Watches.{KeepsTelling}
use Rattle.checker.specs.declared.error.CheckError.{CheckError}
use Rattle.checker.specs.declared.error.CheckError.TheVariants.{Device}
use Rattle.checker.specs.declared.fault.Fault.TheVariants as faults
use Rattle.checker.specs.declared.fault.Finding.{Finding}
use Rattle.checker.specs.declared.fault.RootsFault.{RootsFault}
use Rattle.checker.specs.declared.fault.TreeName.TheVariants.{Image}
use Rattle.checker.specs.declared.findings.Findings.{Findings}
use Rattle.checker.specs.declared.findings.Watch.{Ghosts}

-- no root is found: none of the roots has the sizes of the station
pub no_roots : (m n : Meaning) → IsSameStation m n → n.seen ≡ m.seen → length m.seen.nvram ≡ m.nvram_bytes
    → ((r : Root) → IsNewest r (n.seen.disk SLOT_A) (n.seen.disk SLOT_B) → FitsStation r n → ⊥) → (r : Root) → HasRoots r m.sectors m.seen.disk m.seen.nvram → ⊥
no_roots m n same seen size none r has =
    none r (subst (λ (i : Images). IsNewest r (i.disk SLOT_A) (i.disk SLOT_B)) (sym seen) has.newest)
    (record { sectors = same.sectors ∙ has.sizes.disk; nvram = same.nvram_bytes ∙ sym size ∙ has.sizes.nvram })

-- what is told of the slots of a station is told of those before
pub no_root_before : (m n : Meaning) → IsSameStation m n → n.seen ≡ m.seen
    → HasNoRoot n.sectors n.seen.disk → HasNoRoot m.sectors m.seen.disk
no_root_before m n same seen none =
    subst (λ (i : Images). HasNoRoot m.sectors i.disk) seen
    (subst (λ (k : ℕ). HasNoRoot k n.seen.disk) same.sectors none)

pub no_root_behind : (m n : Meaning) → IsSameStation m n → n.seen ≡ m.seen
    → HasNoRoot m.sectors m.seen.disk → HasNoRoot n.sectors n.seen.disk
no_root_behind m n same seen none =
    subst (λ (i : Images). HasNoRoot n.sectors i.disk) (sym seen)
    (subst (λ (k : ℕ). HasNoRoot k m.seen.disk) (sym same.sectors) none)

pub roots_found : (sectors : ℕ) (disk : ℕ → List ℕ) (nvram : List ℕ) (first new : Option Finding) (found : RootsFault) → first ≡ None → new ≡ Some (first_of first (record { tree = Image; fault = faults.Roots found }))
    → ((r : Root) → HasRoots r sectors disk nvram → ⊥) → TellsRoots sectors disk found
    → IfSome new (IsFinding sectors disk nvram)
roots_found sectors disk nvram first new found none is not told =
    let one : new ≡ Some (record { tree = Image; fault = faults.Roots found }) = is ∙ ap (λ (o : Option Finding). Some (first_of o (record { tree = Image; fault = faults.Roots found }))) none in
    subst (λ (o : Option Finding). IfSome o (IsFinding sectors disk nvram)) (sym one) (not, told)

module _ (r : Root) (w : Whole) (nvram : List ℕ) where
  either : (b : Bool) (x y : Finding) → IsFindingUnder r w nvram x.tree x.fault → IsFindingUnder r w nvram y.tree y.fault → AreFindings r w nvram (Some (if b then x else y))
  either true x y one other = one
  either false x y one other = other

  first_found : (first : Option Finding) (found : Finding) → AreFindings r w nvram first → IsFindingUnder r w nvram found.tree found.fault → AreFindings r w nvram (Some (first_of first found))
  first_found None found are is = is
  first_found (Some first) found are is = either (nat_le (fault_number first.fault) (fault_number found.fault)) first found are is

  -- one more is found
  pub more_found : (first new : Option Finding) (found : Finding) → new ≡ Some (first_of first found) → AreFindings r w nvram first → IsFindingUnder r w nvram found.tree found.fault → AreFindings r w nvram new
  more_found first new found new_is are is = subst (AreFindings r w nvram) (sym new_is) (first_found first found are is)

  pub if_found : (first : Option Finding) → AreFindings r w nvram first → IfSome first (λ f. IsFindingUnder r w nvram f.tree f.fault)
  if_found None are = tt
  if_found (Some found) are = are

-- ---- what a station leaves

-- reads behind what was settled
pub settled_read : {T U V E : Type 0} {F : E → Type 0} {a b c : Meaning} {v : U} {o : Result T E} (r : Result V CheckError) → Settles a b (Ok v) → OnlyReads F b c o
    → IfErr r (λ e. e ≡ Device → HasGrown b.failed_reads c.failed_reads) → Settles a c r
settled_read {a = a} {b = b} {c = c} (Ok x) first reads device = record {
  same = same_twice a b c first.same reads.same;
  goes = unchanged_twice a b c first.goes reads.goes;
  grown = may_grow_twice a.failed_reads b.failed_reads c.failed_reads first.grown reads.reads;
  device = tt;
  settled = still_left b c a.seen reads.same reads.goes first.settled;
}
settled_read {a = a} {b = b} {c = c} (Err e) first reads device = record {
  same = same_twice a b c first.same reads.same;
  goes = unchanged_twice a b c first.goes reads.goes;
  grown = may_grow_twice a.failed_reads b.failed_reads c.failed_reads first.grown reads.reads;
  device = λ is. inl (grown_since a.failed_reads b.failed_reads c.failed_reads first.grown (device is));
  settled = tt;
}

-- ---- what a watch was told

module _ {W : Type 0} {G : Ghosts W} where
  pub telling_none : (a : Findings W) → KeepsTelling G a a
  telling_none a = record { watch = refl; first = λ is. is }

  pub telling_more : {a b c : Findings W} → KeepsTelling G a b → KeepsTelling G b c → KeepsTelling G a c
  telling_more first last = record { watch = last.watch ∙ first.watch; first = λ is. last.first (first.first is) }
