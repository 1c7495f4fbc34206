-- What only looks at blocks, step by step.
use Rattle.std.proofs.Common.{◌≡◌, ◌∙◌, ℕ, List, Result, Ok, Err, inl, subst}
use Rattle.std.specs.Result.{IsErrAnd}
use Rattle.station.specs.Moments.{HasGrown, MayGrow}
use Rattle.station.proofs.Moments.{grown_since, may_grow_twice}
use Rattle.buffers.specs.Reads.{ReadsBlocks}
use Rattle.buffers.specs.declared.blocks.Blocks.{Ghosts}
use Rattle.checker.specs.Errors.{ReadsForFaults}

-- nothing was done but reading, and a call may have failed
pub record HasLooked {B : Type 0} (G : Ghosts B) (old new : B) : Type 0 where
  pub count : G.count new ≡ G.count old
  pub grown : MayGrow (G.failed old) (G.failed new)
  pub reads : (start : B) → G.ReadsOn start old → G.ReadsOn start new
  pub same : (disk : ℕ → List ℕ) → G.Shows old disk → G.Shows new disk

module _ {B : Type 0} {G : Ghosts B} where
  pub looked_none : (a : B) → HasLooked G a a
  looked_none a = record { count = λ i. G.count a; grown = inl (λ i. G.failed a); reads = λ start so. so; same = λ disk shows. shows }

  pub looked_more : {a b c : B} → HasLooked G a b → HasLooked G b c → HasLooked G a c
  looked_more {a = a} {b = b} {c = c} first last = record {
    count = last.count ∙ first.count;
    grown = may_grow_twice (G.failed a) (G.failed b) (G.failed c) first.grown last.grown;
    reads = λ start so. last.reads start (first.reads start so);
    same = λ disk shows. last.same disk (first.same disk shows);
  }

  -- blocks that are let go of
  pub forgotten : {a b : B} → G.count b ≡ G.count a → G.failed b ≡ G.failed a → ((start : B) → G.ReadsOn start a → G.ReadsOn start b)
      → ((disk : ℕ → List ℕ) → G.Shows a disk → G.Shows b disk) → HasLooked G a b
  forgotten count failed reads same = record { count = count; grown = inl failed; reads = reads; same = same }

  -- a function that only looks
  pub looked : {T E : Type 0} {F : E → Type 0} {a b : B} {r : Result T E} → ReadsForFaults G F a b r → HasLooked G a b
  looked look = record { count = look.count; grown = look.grown; reads = look.reads; same = look.same }

  -- a function that only reads, by what is known of a count that reads change
  pub looked_of : {T E : Type 0} {F : E → Type 0} {a b : B} {r : Result T E} → ((s : B) → G.ReadsOn s s) → ((s t : B) → G.ReadsOn s t → MayGrow (G.failed s) (G.failed t)) → ReadsBlocks G F a b r → HasLooked G a b
  looked_of {a = a} {b = b} nothing grows read = record { count = read.count; grown = grows a b (read.reads a (nothing a)); reads = read.reads; same = read.same }

  -- the same, by its clauses one by one
  pub looked_at : {a b : B} → ((s : B) → G.ReadsOn s s) → ((s t : B) → G.ReadsOn s t → MayGrow (G.failed s) (G.failed t)) → G.count b ≡ G.count a
      → ((start : B) → G.ReadsOn start a → G.ReadsOn start b) → ((disk : ℕ → List ℕ) → G.Shows a disk → G.Shows b disk) → HasLooked G a b
  looked_at {a = a} {b = b} nothing grows count reads same = record { count = count; grown = grows a b (reads a (nothing a)); reads = reads; same = same }

  -- an answer
  pub looks_ok : {T E : Type 0} {F : E → Type 0} {a b : B} {y : T} → HasLooked G a b → ReadsForFaults G F a b (Ok y)
  looks_ok look = record { count = look.count; grown = look.grown; device = tt; reads = look.reads; same = look.same }

  -- an error: it says that a call failed where the last step's does
  pub looks_err : {T E : Type 0} {F : E → Type 0} {a b c : B} {e : E} → HasLooked G a b → HasLooked G b c → (F e → HasGrown (G.failed b) (G.failed c)) → ReadsForFaults {T = T} G F a c (Err e)
  looks_err {a = a} {b = b} {c = c} first last device =
      let all = looked_more first last in
      record {
        count = all.count;
        grown = all.grown;
        device = λ fault. grown_since (G.failed a) (G.failed b) (G.failed c) first.grown (device fault);
        reads = all.reads;
        same = all.same;
      }

  -- the same, where it is passed on
  pub looks_passed : {T E E' : Type 0} {F : E → Type 0} {F' : E' → Type 0} {a b c : B} {e : E'} (q : Result T E) → (conv : E' → E) → ((x : E') → F (conv x) → F' x) → IsErrAnd q (λ f. f ≡ conv e)
      → HasLooked G a b → HasLooked G b c → (F' e → HasGrown (G.failed b) (G.failed c)) → ReadsForFaults G F a c q
  looks_passed (Ok y) conv same is first last device = absurd is
  looks_passed {F = F} {e = e} (Err f) conv same is first last device = looks_err first last (λ fault. device (same e (subst F is fault)))
