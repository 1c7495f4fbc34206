-- The bytes of a batch: those of its records one behind the other, without the first one's gate,
-- and a closed gate.
use Rattle.std.proofs.Common.{◌≡◌, ◌≢◌, ℕ, suc, ◌+◌, List, [], ◌∷◌, ◌++◌, length, set, Result, Ok, Err, refl, sym, ap, ◌∙◌, arith, append_assoc, length-append, subst}
use Rattle.std.specs.Prelude.{OnOk}
use Rattle.std.proofs.lemmas.List.{set_at}
use Rattle.std.proofs.lemmas.List.Elements.{All-push}
use Rattle.layout.specs.Log.{record_of, records_of}
use Rattle.oplog.specs.Batches.{AreBehind, IsBatchOf}
use Rattle.oplog.specs.Internal.{IsBehind}
use Rattle.oplog.proofs.Records.{IsShort, length-behind, length-record_of, one_behind, records_of-append}

-- some records wait
pub some_wait : (more : List (List ℕ)) (bytes : List ℕ) → IsBatchOf more bytes → bytes ≢ [] → AreBehind more bytes
some_wait [] bytes is some = absurd (some is)
some_wait (body ∷ more) bytes is some = is

-- none waits
pub none_waits : (more : List (List ℕ)) (bytes : List ℕ) → IsBatchOf more bytes → bytes ≡ [] → more ≡ []
none_waits [] bytes is none = refl
none_waits (body ∷ more) bytes is none =
    absurd (omega (arith, length-behind (body ∷ more) bytes is, ap length none, length-append (record_of body) (records_of more), length-record_of body))

-- the first record waits
pub first_waits : {E : Type 0} (more : List (List ℕ)) (body old behind new : List ℕ) (result : Result (Unit {0}) E) → IsBatchOf more old → IsBehind body behind → old ≡ []
    → OnOk result (new ≡ old ++ behind) → OnOk result (IsBatchOf (more ++ body ∷ []) new)
first_waits more body old behind new (Ok done) waits is none extended =
    subst (λ (l : List (List ℕ)). IsBatchOf (l ++ body ∷ []) new) (sym (none_waits more old waits none))
    (subst (AreBehind (body ∷ [])) (sym (extended ∙ ap (λ (l : List ℕ). l ++ behind) none)) (one_behind body behind is))
first_waits more body old behind new (Err e) waits is none extended = tt

-- a record more is behind, whose gate is the one that was closed behind the others
one_more : (more : List (List ℕ)) (body old behind new : List ℕ) (n : ℕ) → AreBehind more old → IsBehind body behind → n + 1 ≡ length old
    → new ≡ set (old ++ behind) n 1 → AreBehind (more ++ body ∷ []) new
one_more more body old behind new n are is place set_is = record {
  short = All-push IsShort more body are.short is.short;
  spelled = ap (λ (l : List ℕ). 1 ∷ l) set_is
      ∙ ap (λ (l : List ℕ). set l (suc n) 1) (ap (λ (l : List ℕ). l ++ behind) are.spelled ∙ append_assoc (records_of more) (0 ∷ []) behind)
      ∙ set_at (records_of more) 0 behind 1 (suc n) (omega (arith, place, length-behind more old are))
      ∙ ap (λ (l : List ℕ). records_of more ++ l) (one_behind body behind is).spelled
      ∙ sym (append_assoc (records_of more) (records_of (body ∷ [])) (0 ∷ []))
      ∙ ap (λ (l : List ℕ). l ++ 0 ∷ []) (sym (records_of-append more (body ∷ [])));
}

-- it waits
pub one_waits : (more : List (List ℕ)) (body old behind new : List ℕ) (n : ℕ) → IsBatchOf more old → IsBehind body behind → n + 1 ≡ length old
    → new ≡ set (old ++ behind) n 1 → IsBatchOf (more ++ body ∷ []) new
one_waits [] body old behind new n waits is place set_is = absurd (omega (arith, place, ap length waits))
one_waits (first ∷ more) body old behind new n waits is place set_is = one_more (first ∷ more) body old behind new n waits is place set_is
