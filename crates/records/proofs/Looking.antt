-- Looking for something in an image, step by step.
use Rattle.std.proofs.Common.{◌≡◌, ℕ, List, Option, Result, Ok, Err, IfOk}
use Rattle.std.proofs.lemmas.Result.{IfOk-weaker}
use Rattle.std.specs.Result.{IsErrAnd}
use Rattle.layout.specs.declared.inode.Inode.{Inode}
use Rattle.model.specs.Volumes.{Volume}
use Rattle.buffers.specs.Reads.{ReadsBlocks}
use Rattle.buffers.specs.declared.blocks.Blocks.{Ghosts}
use Rattle.buffers.specs.Errors.{IsFault}
use Rattle.buffers.specs.declared.error.BlockError.{BlockError}
use Rattle.buffers.specs.declared.error.BlockError.TheVariants.{Damaged}
use Rattle.images.specs.Soundness.{Detail}
use Rattle.inofile.specs.declared.inode_file.InodeFile.{InodeFile}
use Rattle.paths.specs.Loads.{OnlyLoads}
use Rattle.paths.specs.Standing.{Looks, StandsIn}
use Rattle.paths.proofs.LookingUp.{same_error}
use Rattle.paths.proofs.Looks.{looks_err, looks_more, looks_ok, looks_reads}
use Rattle.records.specs.Looking.{Brings, Finding, Finds}
use Rattle.records.specs.Shown.{NeverDamagedIn, OnVolumesIn}
use Rattle.records.specs.Steps.{IsAtHand, IsSomeAtHand}
use Rattle.records.specs.declared.steps.ObjectUpdate.{ObjectUpdate}
use Rattle.records.proofs.StandLaws.{no_look, some_stays_at_hand, stays_at_hand}

module _ {B T : Type 0} {G : Ghosts B} {a b : B} {s t : InodeFile} {Known : InodeFile → Type 0} {r : Result T BlockError} where
  -- an object that came into memory is something that was found
  pub brought : Brings G a b s t Known r → Finds G a b s t (λ detail disk settled v x. Unit {0}) r
  brought brings = record {
    looks = brings.looks;
    stays = brings.stays;
    keeps = brings.keeps;
    found = λ disk settled v stands. IfOk-weaker r (λ x. Unit {0}) (λ x. Unit {0}) (λ x is. is) (any r);
    damaged = λ disk settled v stands is. brings.damaged disk settled v stands is;
  }
    where
      any : (r : Result T BlockError) → IfOk r (λ x. Unit {0})
      any (Ok x) = tt
      any (Err e) = tt

-- what is found by objects that come into memory
pub seen : {B T : Type 0} {G : Ghosts B} {a b : B} {s t : InodeFile} {P : Finding T} {r : Result T BlockError} → Looks G IsFault a b s t r → OnlyLoads s t
    → ((detail : Detail) → OnVolumesIn detail G a s (λ disk settled v. IfOk r (P detail disk settled v))) → ((detail : Detail) → NeverDamagedIn detail G a s r) → Finds G a b s t P r
seen looks loads found damaged = record {
  looks = looks;
  stays = loads.known;
  keeps = loads.room;
  found = λ {detail} disk settled v stands. found detail disk settled v stands;
  damaged = λ {detail}. damaged detail;
}

module _ {B T U : Type 0} {G : Ghosts B} {a b : B} {s t : InodeFile} {P : Finding T} {Q : Finding U} where
  -- a step before has failed
  pub fails : {e : BlockError} (q : Result U BlockError) → IsErrAnd q (λ f. f ≡ e) → Finds G a b s t P (Err e) → Finds G a b s t Q q
  fails (Ok y) is finds = absurd is
  fails {e = e} (Err f) is finds = record {
    looks = looks_err (Err f) is finds.looks;
    stays = finds.stays;
    keeps = finds.keeps;
    found = λ disk settled v stands. tt;
    damaged = λ disk settled v stands bad. finds.damaged disk settled v stands (same_error (Err f) e Damaged is bad);
  }

  -- something else is told by what was found
  pub tells : {x : T} {y : U} → Finds G a b s t P (Ok x)
      → ((detail : Detail) (disk : ℕ → List ℕ) (settled : ℕ → Inode) (v : Volume) → StandsIn detail G disk settled v b t → P detail disk settled v x → Q detail disk settled v y)
      → Finds G a b s t Q (Ok y)
  tells finds then = record {
    looks = looks_ok finds.looks;
    stays = finds.stays;
    keeps = finds.keeps;
    found = λ {detail} disk settled v stands. then detail disk settled v (finds.looks.kept disk settled v stands) (finds.found disk settled v stands);
    damaged = λ disk settled v stands is. cc;
  }

-- blocks are read behind what was found
pub read_on : {B T U : Type 0} {G : Ghosts B} {a b c : B} {s t : InodeFile} {N : Finding T} {P : Finding U} {x : T} {r : Result U BlockError} → Finds G a b s t N (Ok x) → ReadsBlocks G IsFault b c r
    → ((detail : Detail) → OnVolumesIn detail G b t (λ disk settled v. IfOk r (P detail disk settled v))) → ((detail : Detail) → NeverDamagedIn detail G b t r) → Finds G a c s t P r
read_on finds reads found damaged = record {
  looks = looks_reads finds.looks reads;
  stays = finds.stays;
  keeps = finds.keeps;
  found = λ {detail} disk settled v stands. found detail disk settled v (finds.looks.kept disk settled v stands);
  damaged = λ {detail} disk settled v stands is. damaged detail disk settled v (finds.looks.kept disk settled v stands) is;
}

module _ {B T U : Type 0} {G : Ghosts B} {a b c : B} {s t u : InodeFile} {P : Finding T} {Q : Finding U} {x : T} {r : Result U BlockError} where
  -- something is found, and then something else: both are true
  pub besides : Finds G a b s t P (Ok x) → Finds G b c t u Q r → Finds G a c s u (λ detail disk settled v y. P detail disk settled v x × Q detail disk settled v y) r
  besides first last = record {
    looks = looks_more first.looks last.looks;
    stays = λ n is. last.stays n (first.stays n is);
    keeps = λ n is. last.keeps n (first.keeps n is);
    found = λ {detail} disk settled v stands.
        IfOk-weaker r (Q detail disk settled v) (λ y. P detail disk settled v x × Q detail disk settled v y) (λ y is. (first.found disk settled v stands, is))
        (last.found disk settled v (first.looks.kept disk settled v stands));
    damaged = λ disk settled v stands is. last.damaged disk settled v (first.looks.kept disk settled v stands) is;
  }

  -- so is the last
  pub behind : Finds G a b s t P (Ok x) → Finds G b c t u Q r → Finds G a c s u Q r
  behind first last = record {
    looks = looks_more first.looks last.looks;
    stays = λ n is. last.stays n (first.stays n is);
    keeps = λ n is. last.keeps n (first.keeps n is);
    found = λ disk settled v stands. last.found disk settled v (first.looks.kept disk settled v stands);
    damaged = λ disk settled v stands is. last.damaged disk settled v (first.looks.kept disk settled v stands) is;
  }

-- what is at hand stays so
pub at_hand_behind : {B T : Type 0} {G : Ghosts B} {a b : B} {s t : InodeFile} {P : Finding T} {r : Result T BlockError} (n : ℕ) → Finds G a b s t P r → IsAtHand s n → IsAtHand t n
at_hand_behind {s = s} {t = t} n finds is = stays_at_hand s t finds.looks.geometry finds.keeps finds.stays n is

pub some_at_hand_behind : {B T : Type 0} {G : Ghosts B} {a b : B} {s t : InodeFile} {P : Finding T} {r : Result T BlockError} (step : Option ObjectUpdate) → Finds G a b s t P r → IsSomeAtHand s step → IsSomeAtHand t step
some_at_hand_behind {s = s} {t = t} step finds is = some_stays_at_hand s t finds.looks.geometry finds.keeps finds.stays step is

-- nothing was looked for
pub found_nothing : {B : Type 0} {G : Ghosts B} {a : B} {s : InodeFile} → Finds {T = ℕ} G a a s s (λ detail disk settled v x. Unit {0}) (Ok 0)
found_nothing = record { looks = no_look; stays = λ n is. is; keeps = λ n is. is; found = λ disk settled v stands. tt; damaged = λ disk settled v stands is. cc }
