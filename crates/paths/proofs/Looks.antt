-- Looking into an image, step by step.
use Rattle.std.proofs.Common.{◌≡◌, ◌∙◌, ℕ, List, Result, Ok, Err, sym, subst}
use Rattle.std.specs.Result.{IsErrAnd}
use Rattle.layout.specs.declared.inode.Inode.{Inode}
use Rattle.model.specs.Volumes.{Volume}
use Rattle.buffers.specs.Failures.{HasGrown}
use Rattle.buffers.specs.Reads.{ReadsBlocks, HasOnlyRead}
use Rattle.buffers.specs.declared.blocks.Blocks.{Ghosts}
use Rattle.images.specs.Soundness.{Detail}
use Rattle.inofile.specs.Room.{NeedsNoMore}
use Rattle.inofile.specs.Volumes.{IsVolumeIn}
use Rattle.inofile.specs.declared.inode_file.InodeFile.{InodeFile}
use Rattle.paths.specs.Loads.{OnlyLoads}
use Rattle.paths.specs.Standing.{Looks, StandsIn}

-- memory stands for a volume over blocks that show the disk as before
pub stands_over : {B : Type 0} {detail : Detail} {G : Ghosts B} {disk : ℕ → List ℕ} {settled : ℕ → Inode} {v : Volume} (blocks after : B) (t : InodeFile)
    → G.count after ≡ G.count blocks → G.Shows after disk → IsVolumeIn detail (G.count blocks) disk settled t v → StandsIn detail G disk settled v after t
stands_over {detail = detail} {disk = disk} {settled = settled} {v = v} blocks after t same shows volume = record {
  shows = shows;
  volume = subst (λ (n : ℕ). IsVolumeIn detail n disk settled t v) (sym same) volume;
}

-- nothing was done but looking, and no call failed
pub record HasLooked {B : Type 0} (G : Ghosts B) (blocks after : B) (s t : InodeFile) : Type 0 where
  pub read : HasOnlyRead G blocks after
  pub geometry : t.geometry ≡ s.geometry
  pub needs : NeedsNoMore s t
  pub loads : OnlyLoads s t
  pub kept : {detail : Detail} (disk : ℕ → List ℕ) (settled : ℕ → Inode) (v : Volume) → StandsIn detail G disk settled v blocks s → StandsIn detail G disk settled v after t

pub loads_more : (old s new : InodeFile) → OnlyLoads old s → OnlyLoads s new → OnlyLoads old new
loads_more old s new first last = record {
  known = λ n is. last.known n (first.known n is);
  room = λ n is. last.room n (first.room n is);
  changed = λ n. (λ is. (first.changed n).0 ((last.changed n).0 is), λ is. (last.changed n).1 ((first.changed n).1 is));
}

-- blocks that are read twice
pub reads_more : {B T U E : Type 0} {G : Ghosts B} {F : E → Type 0} {a b c : B} {x : U} (r : Result T E)
    → ReadsBlocks G F a b (Ok x) → ReadsBlocks G F b c r → ReadsBlocks G F a c r
reads_more (Ok y) first last = record {
  count = last.count ∙ first.count;
  counted = last.counted ∙ first.counted;
  device = tt;
  reads = λ start so. last.reads start (first.reads start so);
  same = λ disk shows. last.same disk (first.same disk shows);
}
reads_more {G = G} {c = c} (Err e) first last = record {
  count = last.count ∙ first.count;
  counted = tt;
  device = λ fault. subst (λ n. HasGrown n (G.failed c)) first.counted (last.device fault);
  reads = λ start so. last.reads start (first.reads start so);
  same = λ disk shows. last.same disk (first.same disk shows);
}

module _ {B T U E : Type 0} {G : Ghosts B} {F : E → Type 0} {a b : B} {s t : InodeFile} where
  -- what a look did, where another value comes of it
  pub looks_ok : {x : T} {y : U} → Looks G F a b s t (Ok x) → Looks G F a b s t (Ok y)
  looks_ok look = record {
    reads = record { count = look.reads.count; counted = look.reads.counted; device = tt; reads = look.reads.reads; same = look.reads.same };
    geometry = look.geometry;
    needs = look.needs;
    kept = look.kept;
  }

  -- the same where it failed
  pub looks_err : {e : E} (q : Result U E) → IsErrAnd q (λ f. f ≡ e) → Looks {T = T} G F a b s t (Err e) → Looks G F a b s t q
  looks_err (Ok y) is look = absurd is
  looks_err (Err f) is look = record {
    reads = record { count = look.reads.count; counted = tt; device = λ fault. look.reads.device (subst F is fault); reads = look.reads.reads; same = look.reads.same };
    geometry = look.geometry;
    needs = look.needs;
    kept = look.kept;
  }

module _ {B T E : Type 0} {G : Ghosts B} {F : E → Type 0} {a b c : B} {s t : InodeFile} where
  -- blocks that are read after a look
  pub looks_reads : {U : Type 0} {x : U} {r : Result T E} → Looks G F a b s t (Ok x) → ReadsBlocks G F b c r → Looks G F a c s t r
  looks_reads {r = r} look read = record {
    reads = reads_more r look.reads read;
    geometry = look.geometry;
    needs = look.needs;
    kept = λ disk settled v stands.
        let now = look.kept disk settled v stands in
        stands_over b c t read.count (read.same disk now.shows) now.volume;
  }

  -- a look after a look
  pub looks_more : {U : Type 0} {x : U} {r : Result T E} {u : InodeFile} → Looks G F a b s t (Ok x) → Looks G F b c t u r → Looks G F a c s u r
  looks_more {r = r} first last = record {
    reads = reads_more r first.reads last.reads;
    geometry = last.geometry ∙ first.geometry;
    needs = λ n k le. last.needs n k (first.needs n k le);
    kept = λ disk settled v stands. last.kept disk settled v (first.kept disk settled v stands);
  }

module _ {B T E : Type 0} {G : Ghosts B} {F : E → Type 0} {a b : B} {s t : InodeFile} where
  -- a look that came to an end
  pub has_looked : {x : T} → Looks G F a b s t (Ok x) → OnlyLoads s t → HasLooked G a b s t
  has_looked look loads = record {
    read = record { count = look.reads.count; counted = look.reads.counted; reads = look.reads.reads; same = look.reads.same };
    geometry = look.geometry;
    needs = look.needs;
    loads = loads;
    kept = look.kept;
  }

  -- what was looked at, and a value that comes of it
  pub as_look : {x : T} → HasLooked G a b s t → Looks G F a b s t (Ok x)
  as_look looked = record {
    reads = record { count = looked.read.count; counted = looked.read.counted; device = tt; reads = looked.read.reads; same = looked.read.same };
    geometry = looked.geometry;
    needs = looked.needs;
    kept = looked.kept;
  }

  -- then something failed that is no device call
  pub then_failed : (e : E) (q : Result T E) → IsErrAnd q (λ f. f ≡ e) → (F e → ⊥) → HasLooked G a b s t → Looks G F a b s t q
  then_failed e (Ok y) is other looked = absurd is
  then_failed e (Err f) is other looked = record {
    reads = record { count = looked.read.count; counted = tt; device = λ fault. absurd (other (subst F is fault)); reads = looked.read.reads; same = looked.read.same };
    geometry = looked.geometry;
    needs = looked.needs;
    kept = looked.kept;
  }

pub looked_more : {B : Type 0} {G : Ghosts B} {a b c : B} {s t u : InodeFile} → HasLooked G a b s t → HasLooked G b c t u → HasLooked G a c s u
looked_more {s = s} {t = t} {u = u} first last = record {
  read = record {
    count = last.read.count ∙ first.read.count;
    counted = last.read.counted ∙ first.read.counted;
    reads = λ start so. last.read.reads start (first.read.reads start so);
    same = λ disk shows. last.read.same disk (first.read.same disk shows);
  };
  geometry = last.geometry ∙ first.geometry;
  needs = λ n k le. last.needs n k (first.needs n k le);
  loads = loads_more s t u first.loads last.loads;
  kept = λ disk settled v stands. last.kept disk settled v (first.kept disk settled v stands);
}

-- one more look
pub looks_then : {B T E : Type 0} {G : Ghosts B} {F : E → Type 0} {a b c : B} {s t u : InodeFile} {r : Result T E}
    → HasLooked G a b s t → Looks G F b c t u r → Looks G F a c s u r
looks_then {E = E} {G = G} {F = F} {a = a} {b = b} {s = s} {t = t} first last =
    let so_far : Looks {T = ℕ} {E = E} G F a b s t (Ok 0) = as_look first in
    looks_more so_far last
