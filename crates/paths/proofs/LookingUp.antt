-- Looking something up, step by step.
use Rattle.std.proofs.Common.{◌≡◌, ℕ, List, Result, Ok, Err, refl}
use Rattle.std.specs.Result.{IsErrAnd, IsErrOf}
use Rattle.buffers.specs.Errors.{IsFault}
use Rattle.buffers.specs.declared.error.BlockError.{BlockError}
use Rattle.buffers.specs.declared.error.BlockError.TheVariants.{Damaged}
use Rattle.buffers.specs.declared.blocks.Blocks.{Ghosts}
use Rattle.layout.specs.declared.inode.Inode.{Inode}
use Rattle.images.specs.Soundness.{Detail}
use Rattle.inofile.specs.declared.inode_file.InodeFile.{InodeFile}
use Rattle.model.specs.Volumes.{Volume}
use Rattle.paths.specs.Loads.{LooksInto, LooksUp, OnlyLoads}
use Rattle.paths.specs.Standing.{Looks, NeverDamaged, NeverDamagedIn, OnVolumes, StandsIn}
use Rattle.paths.proofs.Looks.{HasLooked, as_look, has_looked, loads_more, looked_more, looks_err, looks_ok, looks_then, then_failed}

-- an error carried on, whatever would have come in its place
pub same_error : {T U : Type 0} (q : Result T BlockError) (e d : BlockError) → IsErrAnd q (λ f. f ≡ e) → IsErrOf q d → IsErrOf {T = U} {E = BlockError} (Err e) d
same_error (Ok y) e d is bad = absurd is
same_error (Err f) e d is bad = cc

-- nothing is looked at yet
pub not_looked : {B : Type 0} {G : Ghosts B} {a : B} {s : InodeFile} → HasLooked G a a s s
not_looked = record {
  read = record { count = refl; counted = refl; reads = λ start so. so; same = λ disk shows. shows };
  geometry = refl;
  needs = λ n k le. le;
  loads = record { known = λ n is. is; room = λ n is. is; changed = λ n. (λ is. is, λ is. is) };
  kept = λ disk settled v stands. stands;
}

module _ {B T : Type 0} {G : Ghosts B} {a b : B} {s t : InodeFile} {W : T → Type 0} {P : Volume → T → Type 0} where
  -- it is found by a look that came to an end
  pub finds : {U : Type 0} {u : U} {x : T} → Looks {T = U} {E = BlockError} G IsFault a b s t (Ok u) → OnlyLoads s t → W x → OnVolumes G a s (λ disk settled v. P v x)
      → LooksUp G a b s t W P (Ok x)
  finds look loads within found = record { looks = looks_ok look; loads = loads; within = within; found = found; damaged = λ disk settled v stands bad. cc }

  -- a look has failed
  pub fails : {U : Type 0} {e : BlockError} (q : Result T BlockError) → IsErrAnd q (λ f. f ≡ e) → Looks {T = U} G IsFault a b s t (Err e) → OnlyLoads s t → NeverDamaged {T = U} G a s (Err e)
      → LooksUp G a b s t W P q
  fails (Ok y) is look loads sound = absurd is
  fails {e = e} (Err f) is look loads sound = record {
    looks = looks_err (Err f) is look;
    loads = loads;
    within = tt;
    found = λ disk settled v stands. tt;
    damaged = λ disk settled v stands bad. sound disk settled v stands (same_error (Err f) e Damaged is bad);
  }

  -- the same of what no file's bytes tell
  pub finds_into : {U : Type 0} {u : U} {x : T} → Looks {T = U} {E = BlockError} G IsFault a b s t (Ok u) → OnlyLoads s t → W x
      → ((detail : Detail) (disk : ℕ → List ℕ) (settled : ℕ → Inode) (v : Volume) → StandsIn detail G disk settled v a s → P v x) → LooksInto G a b s t W P (Ok x)
  finds_into look loads within found = record {
    looks = looks_ok look;
    loads = loads;
    within = within;
    found = λ disk settled v stands. found _ disk settled v stands;
    damaged = λ disk settled v stands bad. cc;
  }

  pub fails_into : {U : Type 0} {e : BlockError} (q : Result T BlockError) → IsErrAnd q (λ f. f ≡ e) → Looks {T = U} G IsFault a b s t (Err e) → OnlyLoads s t
      → ((detail : Detail) → NeverDamagedIn {T = U} detail G a s (Err e)) → LooksInto G a b s t W P q
  fails_into (Ok y) is look loads sound = absurd is
  fails_into {e = e} (Err f) is look loads sound = record {
    looks = looks_err (Err f) is look;
    loads = loads;
    within = tt;
    found = λ disk settled v stands. tt;
    damaged = λ disk settled v stands bad. sound _ disk settled v stands (same_error (Err f) e Damaged is bad);
  }

  pub looked_into : {r : Result T BlockError} → LooksInto G a b s t W P r → LooksUp G a b s t W P r
  looked_into up = record {
    looks = up.looks;
    loads = up.loads;
    within = up.within;
    found = λ disk settled v stands. up.found disk settled v stands;
    damaged = λ disk settled v stands bad. up.damaged disk settled v stands bad;
  }

  -- it is found behind all looks
  pub at_end : {x : T} → HasLooked G a b s t → W x → OnVolumes G a s (λ disk settled v. P v x) → LooksUp G a b s t W P (Ok x)
  at_end looked within found = record { looks = as_look looked; loads = looked.loads; within = within; found = found; damaged = λ disk settled v stands bad. cc }

  -- something else failed, as memory does
  pub gives_up : (e : BlockError) (q : Result T BlockError) → IsErrAnd q (λ f. f ≡ e) → (IsFault e → ⊥) → (e ≡ Damaged → ⊥) → HasLooked G a b s t → LooksUp G a b s t W P q
  gives_up e (Ok y) is other sound looked = absurd is
  gives_up e (Err f) is other sound looked = record {
    looks = then_failed e (Err f) is other looked;
    loads = looked.loads;
    within = tt;
    found = λ disk settled v stands. tt;
    damaged = λ disk settled v stands bad. sound cc;
  }

module _ {B U : Type 0} {G : Ghosts B} {a b c : B} {s t u : InodeFile} {V : U → Type 0} {Q : Volume → U → Type 0} where
  -- what was looked at, when something is looked up
  pub looked_up : {x : U} → HasLooked G a b s t → LooksUp G b c t u V Q (Ok x) → HasLooked G a c s u
  looked_up looked up = looked_more looked (has_looked up.looks up.loads)

  module _ {T : Type 0} {W : T → Type 0} {P : Volume → T → Type 0} where
    -- it is found where something was looked up
    pub then_finds : {x : T} {y : U} → HasLooked G a b s t → LooksUp G b c t u V Q (Ok y) → W x → OnVolumes G a s (λ disk settled v. P v x) → LooksUp G a c s u W P (Ok x)
    then_finds looked up within found = finds (looks_then looked up.looks) (loads_more s t u looked.loads up.loads) within found

    -- one more look has failed
    pub then_fails : {e : BlockError} (q : Result T BlockError) → IsErrAnd q (λ f. f ≡ e) → HasLooked G a b s t → LooksUp G b c t u V Q (Err e) → LooksUp G a c s u W P q
    then_fails {e = e} q is looked up =
        fails q is (looks_then looked up.looks) (loads_more s t u looked.loads up.loads) (λ disk settled v stands bad. up.damaged disk settled v (looked.kept disk settled v stands) bad)
