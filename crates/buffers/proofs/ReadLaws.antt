-- Blocks that are read, step by step.
use Rattle.std.proofs.Common.{◌≡◌, ◌∙◌, Result, Ok, Err, subst}
use Rattle.std.specs.Result.{IsErrAnd}
use Rattle.buffers.specs.Failures.{HasGrown}
use Rattle.buffers.specs.Reads.{HasOnlyRead, ReadsBlocks}
use Rattle.buffers.specs.declared.blocks.Blocks.{Ghosts}

module _ {B T E : Type 0} {G : Ghosts B} {F : E → Type 0} where
  -- what a reading did, where another value comes of it
  pub reads_ok : {U : Type 0} {a b : B} {x : T} {y : U} → ReadsBlocks G F a b (Ok x) → ReadsBlocks G F a b (Ok y)
  reads_ok read = record { count = read.count; counted = read.counted; device = tt; reads = read.reads; same = read.same }

  -- the same where it failed
  pub reads_err : {U : Type 0} {a b : B} {e : E} (q : Result U E) → IsErrAnd q (λ f. f ≡ e) → ReadsBlocks {T = T} G F a b (Err e) → ReadsBlocks G F a b q
  reads_err (Ok y) is read = absurd is
  reads_err (Err f) is read = record { count = read.count; counted = tt; device = λ fault. read.device (subst F is fault); reads = read.reads; same = read.same }

  -- a reading after a reading
  pub reads_more : {U : Type 0} {a b c : B} {x : U} (r : Result T E) → ReadsBlocks G F a b (Ok x) → ReadsBlocks G F b c r → ReadsBlocks G F a c r
  reads_more (Ok y) first last = record {
    count = last.count ∙ first.count;
    counted = last.counted ∙ first.counted;
    device = tt;
    reads = λ start so. last.reads start (first.reads start so);
    same = λ disk shows. last.same disk (first.same disk shows);
  }
  reads_more {c = c} (Err e) first last = record {
    count = last.count ∙ first.count;
    counted = tt;
    device = λ fault. subst (λ n. HasGrown n (G.failed c)) first.counted (last.device fault);
    reads = λ start so. last.reads start (first.reads start so);
    same = λ disk shows. last.same disk (first.same disk shows);
  }

  -- a reading after what only read, in a loop
  pub only_more : {a b c : B} (r : Result T E) → HasOnlyRead G a b → ReadsBlocks G F b c r → ReadsBlocks G F a c r
  only_more (Ok y) first last = record {
    count = last.count ∙ first.count;
    counted = last.counted ∙ first.counted;
    device = tt;
    reads = λ start so. last.reads start (first.reads start so);
    same = λ disk shows. last.same disk (first.same disk shows);
  }
  only_more {c = c} (Err e) first last = record {
    count = last.count ∙ first.count;
    counted = tt;
    device = λ fault. subst (λ n. HasGrown n (G.failed c)) first.counted (last.device fault);
    reads = λ start so. last.reads start (first.reads start so);
    same = λ disk shows. last.same disk (first.same disk shows);
  }

  -- the loop at its end
  pub only_ok : {a b : B} {y : T} → HasOnlyRead G a b → ReadsBlocks G F a b (Ok y)
  only_ok read = record { count = read.count; counted = read.counted; device = tt; reads = read.reads; same = read.same }

  -- the loop one step on
  pub only_then : {a b c : B} {x : T} → HasOnlyRead G a b → ReadsBlocks G F b c (Ok x) → HasOnlyRead G a c
  only_then first last = record {
    count = last.count ∙ first.count;
    counted = last.counted ∙ first.counted;
    reads = λ start so. last.reads start (first.reads start so);
    same = λ disk shows. last.same disk (first.same disk shows);
  }
