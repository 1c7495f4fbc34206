-- Parts of a plan, one after the other: what they promise of the disk, of the draft, and of the inode file in memory.
use Rattle.std.proofs.Common.{◌≡◌, ℕ, ◌+◌, ◌≤◌, Result, Ok, Err, refl, ap, sym, subst, ◌∙◌, arith}
use Rattle.std.specs.Prelude.{OnOk}
use Rattle.std.specs.Result.{IfErr, IsErrAnd, IsErrOf}
use Rattle.layout.specs.declared.root.Root.{Root}
use Rattle.buffers.specs.Reads.{HasOnlyRead, ReadsBlocks}
use Rattle.buffers.specs.declared.blocks.Blocks.{Ghosts}
use Rattle.buffers.proofs.ReadLaws.{only_ok, reads_err, reads_more, reads_ok}
use Rattle.buffers.specs.Errors.{IsFault}
use Rattle.buffers.specs.declared.error.BlockError.{BlockError}
use Rattle.buffers.specs.declared.error.BlockError.TheVariants as below
use Rattle.blockmap.specs.Maps.{entry_at}
use Rattle.blockmap.specs.declared.map.BlockMap.{BlockMap}
use Rattle.conspoint.specs.Drafts.{Grows, IsShortage}
use Rattle.conspoint.specs.Errors.{IsReadFault, plan_error}
use Rattle.conspoint.specs.Space.{Lacks, TakesAtMost}
use Rattle.conspoint.specs.Steps.{Marks, Puts, Takes}
use Rattle.conspoint.specs.declared.draft.Draft.{Draft}
use Rattle.conspoint.specs.declared.error.PlanError.{PlanError}
use Rattle.conspoint.specs.declared.error.PlanError.TheVariants.{Damaged, Device, NoMemory, NoSpace}
use Rattle.conspoint.proofs.DraftLemmas.{grows_twice}
use Rattle.conspoint.proofs.SpaceLemmas.{same_left}
use Rattle.conspoint.proofs.StepLemmas.{marks_take, no_error, same_error, takes_both, takes_more}
use Rattle.inode.specs.declared.file.File.{File}
use Rattle.inofile.specs.declared.inode_file.InodeFile.{InodeFile}
use Rattle.placement.specs.Steps.{ReadsAndPlaces}
use Rattle.placement.proofs.StepLaws.{both_out, read_ended, reads_nothing}
use Rattle.planning.specs.Inodes.{ChangesFile, KeepsFile}
use Rattle.planning.specs.Progress.{KeepsSets}
use Rattle.planning.specs.Promises.{CountsMap, PlansFiles, PlansParts, PlansRoot}
use Rattle.planning.specs.Steps.{OverTree}
use Rattle.planning.proofs.ProgressLaws.{sets_from, sets_twice}
use Rattle.planning.proofs.SettledLaws.{over_read}
use Rattle.planning.proofs.TopLaws.{changes_none, changes_twice}

-- ---- errors

device_alone : (e : BlockError) → plan_error e ≡ Device → e ≡ below.Device
device_alone below.NoMemory is = let no : ⊥ = cc in absurd no
device_alone below.Device is = refl
device_alone below.Damaged is = let no : ⊥ = cc in absurd no

not_full : {P : Type 0} (e : BlockError) → plan_error e ≡ NoSpace → P
not_full below.NoMemory is = let no : ⊥ = cc in absurd no
not_full below.Device is = let no : ⊥ = cc in absurd no
not_full below.Damaged is = let no : ⊥ = cc in absurd no

error_is : {T : Type 0} (f d : PlanError) → IsErrOf {T = T} {E = PlanError} (Err f) d → f ≡ d
error_is f d is = cc

-- ---- what is read

-- nothing is read, and the step fails for want of memory or space alone
unread : {B T : Type 0} {G : Ghosts B} {x : B} (r : Result T PlanError) → IfErr r IsShortage → ReadsBlocks G IsReadFault x x r
unread (Ok v) short = record { count = refl; counted = refl; device = tt; reads = λ start so. so; same = λ disk shows. shows }
unread (Err e) short = record { count = refl; counted = tt; device = λ fault. absurd (subst IsShortage fault short); reads = λ start so. so; same = λ disk shows. shows }

module _ {B : Type 0} {G : Ghosts B} {x y : B} where
  -- a reading that went well, with another type of errors
  pub read_of : {T : Type 0} {v : T} → ReadsBlocks {T = T} {E = BlockError} G IsFault x y (Ok v) → ReadsBlocks {T = T} {E = PlanError} G IsReadFault x y (Ok v)
  read_of read = record { count = read.count; counted = read.counted; device = tt; reads = read.reads; same = read.same }

  -- one that failed
  pub unread_of : {T U : Type 0} {e : BlockError} (q : Result U PlanError) → IsErrAnd q (λ f. f ≡ plan_error e) → ReadsBlocks {T = T} G IsFault x y (Err e) → ReadsBlocks G IsReadFault x y q
  unread_of (Ok w) is read = absurd is
  unread_of {e = e} (Err f) is read = record { count = read.count; counted = tt; device = λ fault. read.device (device_alone e (sym is ∙ fault)); reads = read.reads; same = read.same }

  -- behind a reading something damaged was found
  pub read_damaged : {T : Type 0} {v : T} {e : PlanError} → e ≡ Damaged → ReadsBlocks {T = T} {E = PlanError} G IsReadFault x y (Ok v) → ReadsBlocks {T = T} G IsReadFault x y (Err e)
  read_damaged is read = record { count = read.count; counted = tt; device = λ fault. (let no : ⊥ = cc in absurd no); reads = read.reads; same = read.same }

-- ---- parts that plan files

sets_same : {T : Type 0} (a b : Draft) (r : Result T PlanError) → b.map.parts.items ≡ a.map.parts.items → OnOk r (KeepsSets (entry_at a.map.parts.items) (entry_at b.map.parts.items))
sets_same a b (Ok v) same = sets_from a.map.parts.items b.map.parts.items b.map.parts.items same (λ k i other. refl)
sets_same a b (Err e) same = tt

sets_then : {T : Type 0} (a b c : Draft) (r : Result T PlanError) → KeepsSets (entry_at a.map.parts.items) (entry_at b.map.parts.items)
    → OnOk r (KeepsSets (entry_at b.map.parts.items) (entry_at c.map.parts.items)) → OnOk r (KeepsSets (entry_at a.map.parts.items) (entry_at c.map.parts.items))
sets_then a b c (Ok v) first then = sets_twice (entry_at a.map.parts.items) (entry_at b.map.parts.items) (entry_at c.map.parts.items) first then
sets_then a b c (Err e) first then = tt

module _ {B : Type 0} {G : Ghosts B} {n : ℕ} {x y : B} {a b : Draft} where
  pub plans_ok : {T U : Type 0} {v : T} {w : U} → PlansFiles G n x y a b (Ok v) → PlansFiles G n x y a b (Ok w)
  plans_ok part = record { reads = reads_ok part.reads; grows = part.grows; sets = part.sets; takes = part.takes; lacks = λ bad. no_error NoSpace bad }

  -- a part that failed
  pub plans_err : {T U : Type 0} {e : PlanError} (q : Result U PlanError) → IsErrAnd q (λ f. f ≡ e) → PlansFiles {T = T} G n x y a b (Err e) → PlansFiles G n x y a b q
  plans_err (Ok w) is part = absurd is
  plans_err {e = e} (Err f) is part = record { reads = reads_err (Err f) is part.reads; grows = part.grows; sets = tt; takes = tt; lacks = λ bad. part.lacks (same_error f e NoSpace is bad) }

  -- a file is placed
  pub plans_file : {T : Type 0} {r : Result T PlanError} → ReadsAndPlaces G n x y a b r → PlansFiles G n x y a b r
  plans_file {r = r} step = record { reads = step.reads; grows = step.grows; sets = sets_same a b r step.parts; takes = step.takes; lacks = step.lacks }

  -- more are counted than it takes
  pub plans_rise : {T : Type 0} {k : ℕ} {r : Result T PlanError} → PlansFiles G n x y a b r → n ≤ k → PlansFiles G k x y a b r
  plans_rise {k = k} {r = r} part le = record {
    reads = part.reads;
    grows = part.grows;
    sets = part.sets;
    takes = takes_more n k a b r le part.takes;
    lacks = λ bad. (let few = part.lacks bad in omega (arith, le, few));
  }

module _ {B : Type 0} {G : Ghosts B} {n : ℕ} {x y : B} {d : Draft} where
  -- only reading is done
  pub plans_read : {T : Type 0} {r : Result T PlanError} → ReadsBlocks G IsReadFault x y r → (IsErrOf r NoSpace → ⊥) → PlansFiles G n x y d d r
  plans_read read why = plans_file (read_ended read why)

  pub plans_seen : {T : Type 0} {v : T} → ReadsBlocks {T = T} {E = BlockError} G IsFault x y (Ok v) → PlansFiles G n x y d d (Ok v)
  plans_seen read = plans_read (read_of read) (λ bad. no_error NoSpace bad)

  pub plans_reads : {T U : Type 0} {v : T} {w : U} → ReadsBlocks {T = T} {E = BlockError} G IsFault x y (Ok v) → PlansFiles G n x y d d (Ok w)
  plans_reads read = plans_ok (plans_seen read)

  -- a reading failed
  pub both_unread : {T U : Type 0} {e : BlockError} (q : Result U PlanError) → IsErrAnd q (λ f. f ≡ plan_error e) → ReadsBlocks {T = T} G IsFault x y (Err e) → ReadsAndPlaces G n x y d d q
  both_unread (Ok w) is read = absurd is
  both_unread {e = e} (Err f) is read = read_ended (unread_of (Err f) is read) (λ bad. not_full e (sym is ∙ error_is f NoSpace bad))

  pub plans_unread : {T U : Type 0} {e : BlockError} (q : Result U PlanError) → IsErrAnd q (λ f. f ≡ plan_error e) → ReadsBlocks {T = T} G IsFault x y (Err e) → PlansFiles G n x y d d q
  plans_unread q is read = plans_file (both_unread q is read)

-- there was no memory
pub both_none : {B U : Type 0} {G : Ghosts B} {n : ℕ} {x : B} {d : Draft} (q : Result U PlanError) → IsErrAnd q (λ f. f ≡ NoMemory) → ReadsAndPlaces G n x x d d q
both_none {n = n} q is = both_out q is (read_ended {n = n} reads_nothing (λ bad. no_error NoSpace bad))

pub plans_out : {B U : Type 0} {G : Ghosts B} {n : ℕ} {x : B} {d : Draft} (q : Result U PlanError) → IsErrAnd q (λ f. f ≡ NoMemory) → PlansFiles G n x x d d q
plans_out q is = plans_file (both_none q is)

module _ {B T : Type 0} {G : Ghosts B} {x : B} {a b : Draft} {r : Result T PlanError} where
  -- nothing is read
  pub plans_takes : {n : ℕ} → Takes n a b r → OnOk r (KeepsSets (entry_at a.map.parts.items) (entry_at b.map.parts.items)) → PlansFiles G n x x a b r
  plans_takes step sets = record { reads = unread r step.shortage; grows = step.grows; sets = sets; takes = step.takes; lacks = step.lacks }

  -- the map is marked
  pub plans_marks : Marks a b r → OnOk r (KeepsSets (entry_at a.map.parts.items) (entry_at b.map.parts.items)) → PlansFiles G 0 x x a b r
  plans_marks step sets = plans_takes (marks_take step) sets

  -- bytes are planned where a place is reserved
  pub plans_puts : Puts a b r → PlansFiles G 0 x x a b r
  plans_puts step =
      let same : b.map.parts.items ≡ a.map.parts.items = ap (λ (m : BlockMap). m.parts.items) step.map in
      let next : b.map.next ≡ a.map.next = ap (λ (m : BlockMap). m.next) step.map in
      record {
        reads = unread r step.shortage;
        grows = step.grows;
        sets = sets_same a b r same;
        takes = takes_more 0 0 a b r (omega arith) (elim r as (λ q. OnOk q (TakesAtMost 0 a b)) [
          | Ok v ↦ (let left = same_left a b step.grows next in omega (arith, left))
          | Err e ↦ tt
        ]);
        lacks = λ bad. absurd (step.why bad);
      }

-- one part after the other
pub plans_then : {B T U : Type 0} {G : Ghosts B} {n m k : ℕ} {x y z : B} {a b c : Draft} {v : T} {r : Result U PlanError} → PlansFiles G n x y a b (Ok v) → PlansFiles G m y z b c r → n + m ≤ k → PlansFiles G k x z a c r
plans_then {n = n} {m = m} {k = k} {a = a} {b = b} {c = c} {r = r} first then le = record {
  reads = reads_more r first.reads then.reads;
  grows = grows_twice a b c first.grows then.grows;
  sets = sets_then a b c r first.sets then.sets;
  takes = takes_both n m k a b c r le first.takes then.takes;
  lacks = λ bad. (let few = then.lacks bad in omega (arith, le, few, first.takes));
}

-- a part behind a reading
pub plans_after : {B T U : Type 0} {G : Ghosts B} {n : ℕ} {x y z : B} {a b : Draft} {v : T} {r : Result U PlanError} → ReadsBlocks {T = T} {E = PlanError} G IsReadFault x y (Ok v) → PlansFiles G n y z a b r → PlansFiles G n x z a b r
plans_after {r = r} read part = record { reads = reads_more r read part.reads; grows = part.grows; sets = part.sets; takes = part.takes; lacks = part.lacks }

-- what a loop has planned so far
pub plans_so_far : {B T : Type 0} {G : Ghosts B} {n : ℕ} {x y : B} {a b : Draft} {w : T} → HasOnlyRead G x y → Grows a b → KeepsSets (entry_at a.map.parts.items) (entry_at b.map.parts.items) → TakesAtMost n a b
    → PlansFiles G n x y a b (Ok w)
plans_so_far read grows sets takes = record { reads = only_ok read; grows = grows; sets = sets; takes = takes; lacks = λ bad. no_error NoSpace bad }

-- ---- parts of which the inode map is one

module _ {B T : Type 0} {G : Ghosts B} {inodes : InodeFile} {x y : B} {a b : Draft} where
  pub parts_of : {n : ℕ} {k : (ℕ → ℕ) → ℕ} {r : Result T PlanError} → PlansFiles G n x y a b r → ((o : OverTree G x inodes) (w : ℕ → ℕ) → CountsMap o w → n ≤ k w) → PlansParts G inodes k x y a b r
  parts_of {n = n} {k = k} {r = r} part few = record {
    reads = part.reads;
    grows = part.grows;
    sets = part.sets;
    takes = λ o w counts. takes_more n (k w) a b r (few o w counts) part.takes;
    lacks = λ o w counts bad. (let less = part.lacks bad in let le = few o w counts in omega (arith, le, less));
  }

  pub parts_same : {n : ℕ} {r : Result T PlanError} → PlansFiles G n x y a b r → PlansParts G inodes (λ w. n) x y a b r
  parts_same part = parts_of part (λ o w counts. omega arith)

  pub parts_rise : {n k : (ℕ → ℕ) → ℕ} {r : Result T PlanError} → PlansParts G inodes n x y a b r → ((w : ℕ → ℕ) → n w ≤ k w) → PlansParts G inodes k x y a b r
  parts_rise {n = n} {k = k} {r = r} part le = record {
    reads = part.reads;
    grows = part.grows;
    sets = part.sets;
    takes = λ o w counts. takes_more (n w) (k w) a b r (le w) (part.takes o w counts);
    lacks = λ o w counts bad. (let less = part.lacks o w counts bad in let more = le w in omega (arith, more, less));
  }

  -- one of them failed
  pub parts_err : {U : Type 0} {n : (ℕ → ℕ) → ℕ} {e : PlanError} (q : Result U PlanError) → IsErrAnd q (λ f. f ≡ e) → PlansParts {T = T} G inodes n x y a b (Err e) → PlansParts G inodes n x y a b q
  parts_err (Ok w) is part = absurd is
  parts_err {e = e} (Err f) is part = record {
    reads = reads_err (Err f) is part.reads;
    grows = part.grows;
    sets = tt;
    takes = λ o w counts. tt;
    lacks = λ o w counts bad. part.lacks o w counts (same_error f e NoSpace is bad);
  }

  -- one after the other
  pub parts_then : {U : Type 0} {n m k : (ℕ → ℕ) → ℕ} {z : B} {c : Draft} {v : T} {r : Result U PlanError} → PlansParts G inodes n x y a b (Ok v) → PlansParts G inodes m y z b c r → ((w : ℕ → ℕ) → n w + m w ≤ k w)
      → PlansParts G inodes k x z a c r
  parts_then {n = n} {m = m} {k = k} {c = c} {r = r} first then le = record {
    reads = reads_more r first.reads then.reads;
    grows = grows_twice a b c first.grows then.grows;
    sets = sets_then a b c r first.sets then.sets;
    takes = λ o w counts. takes_both (n w) (m w) (k w) a b c r (le w) (first.takes o w counts) (then.takes (over_read first.reads o) w counts);
    lacks = λ o w counts bad.
        let few = then.lacks (over_read first.reads o) w counts bad in
        let took : TakesAtMost (n w) a b = first.takes o w counts in
        let all = le w in omega (arith, all, few, took);
  }

-- no root is planned, as a part failed
pub root_stops : {B T : Type 0} {G : Ghosts B} {inodes : InodeFile} {n : (ℕ → ℕ) → ℕ} {g : ℕ} {root : Root} {x y : B} {a b : Draft} {e : PlanError} (q : Result Root PlanError) → IsErrAnd q (λ f. f ≡ e)
    → ReadsBlocks {T = T} G IsReadFault x y (Err e) → Grows a b → ((o : OverTree G x inodes) (w : ℕ → ℕ) → CountsMap o w → IsErrOf {T = T} {E = PlanError} (Err e) NoSpace → Lacks (n w) a) → PlansRoot G inodes n g root x y a b q
root_stops (Ok r) is reads grows lacks = absurd is
root_stops {e = e} (Err f) is reads grows lacks = record {
  reads = reads_err (Err f) is reads;
  grows = grows;
  takes = λ o w counts. tt;
  lacks = λ o w counts bad. lacks o w counts (same_error f e NoSpace is bad);
  root = tt;
  generation = tt;
  geometry = tt;
  version = tt;
}

-- what can fail for want of memory or space alone reads nothing
pub shortage_reads : {B : Type 0} {G : Ghosts B} {x : B} {e : PlanError} → IsShortage e → ReadsBlocks {T = Root} G IsReadFault x x (Err e)
shortage_reads {e = e} short = unread (Err e) short

-- what finds damage doesn't fail for want of space
pub damaged_fits : {T P : Type 0} {e : PlanError} → e ≡ Damaged → IsErrOf {T = T} {E = PlanError} (Err e) NoSpace → P
damaged_fits {e = e} is bad = let no : ⊥ = cc in absurd no

-- nor does what finds an inode damaged that it has
pub damaged_unread : {B : Type 0} {G : Ghosts B} {x : B} {e : PlanError} → e ≡ Damaged → ReadsBlocks {T = Root} G IsReadFault x x (Err e)
damaged_unread is = record { count = refl; counted = tt; device = λ fault. (let no : ⊥ = cc in absurd no); reads = λ start so. so; same = λ disk shows. shows }

-- ---- the inode file in memory

-- it stays
pub file_none : {IsOne : ℕ → Type 0} (f : File) → ChangesFile IsOne f f
file_none {IsOne = IsOne} f = record {
  size = refl;
  settled = record { layout = refl; pointers = refl; depth = refl; count = refl };
  sound = λ blocks disk i is. is;
  changes = changes_none IsOne f.tree;
}

-- one change after the other
pub file_then : {IsOne IsOther : ℕ → Type 0} {a b c : File} → ((i : ℕ) → IsOther i → IsOne i) → ChangesFile IsOne a b → ChangesFile IsOther b c → ChangesFile IsOne a c
file_then {IsOne = IsOne} {IsOther = IsOther} {a = a} {b = b} {c = c} are first then = record {
  size = then.size ∙ first.size;
  settled = record { layout = then.settled.layout ∙ first.settled.layout; pointers = then.settled.pointers ∙ first.settled.pointers; depth = then.settled.depth ∙ first.settled.depth; count = then.settled.count ∙ first.settled.count };
  sound = λ blocks disk i is. then.sound blocks disk i (first.sound blocks disk i is);
  changes = changes_twice IsOne IsOther a.tree b.tree c.tree are first.changes then.changes;
}

pub file_some : {IsOne IsOther : ℕ → Type 0} {a b : File} → ((i : ℕ) → IsOther i → IsOne i) → ChangesFile IsOther a b → ChangesFile IsOne a b
file_some {a = a} are change = file_then are (file_none a) change

pub keeps_none : (f : File) → KeepsFile f f
keeps_none f = record { size = refl; settled = record { layout = refl; pointers = refl; depth = refl; count = refl }; sound = λ blocks disk i is. is; kept = refl }

pub keeps_then : {a b c : File} → KeepsFile a b → KeepsFile b c → KeepsFile a c
keeps_then first then = record {
  size = then.size ∙ first.size;
  settled = record { layout = then.settled.layout ∙ first.settled.layout; pointers = then.settled.pointers ∙ first.settled.pointers; depth = then.settled.depth ∙ first.settled.depth; count = then.settled.count ∙ first.settled.count };
  sound = λ blocks disk i is. then.sound blocks disk i (first.sound blocks disk i is);
  kept = then.kept ∙ first.kept;
}
