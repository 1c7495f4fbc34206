-- What the words ask for, from what clap answers.
use Rattle.std.proofs.Common.{◌≡◌, List, [], ◌∷◌, ◌⊎◌, inl, inr, refl, sym, subst}
use Rattle.std.specs.Prelude.{IfErr, IfOk, Result, Ok, Err}
use Rattle.clap.specs.Words.{IsAmong, Kinds, Text}
use Rattle.clap.specs.declared.error.kind.ErrorKind.{ErrorKind}
use Rattle.clap.specs.declared.error.kind.ErrorKind.TheVariants.{DisplayHelp, DisplayVersion, OutOfMemory}
use Rattle.command_line.specs.Lines.{IsMisunderstood, Refuses, ShowsHelp, asked_by, asked_value, faults_of, help, line_value}
use Rattle.command_line.specs.Values.{Refusal, not_understood}
use Rattle.command_line.specs.declared.line.Asked.{Asked}
use Rattle.command_line.specs.declared.line.LineError.{LineError}
use Rattle.command_line.specs.declared.line.LineError.TheVariants.{NoMemory, NotUnderstood, OutOfRange}
use Rattle.command_line.specs.declared.waiting.Wait.{Wait}

-- that words aren't understood
pub misunderstood_refuses : {V : Type 0} (r : Result V Refusal) (e : LineError) → r ≡ Err not_understood → IsMisunderstood e → Refuses r e
misunderstood_refuses r NoMemory is h = tt
misunderstood_refuses r (NotUnderstood text) is h = is
misunderstood_refuses r (OutOfRange text) is h = absurd h

-- what `read_others` says of its answer
pub record IsRead (words : List Text) (wait : Wait) (r : Result Asked LineError) : Type 0 where
  pub line : IfOk r (λ asked. (asked_by words wait ≡ Ok (asked_value asked)) ⊎ (line_value asked.line ≡ help))
  pub help : IfOk r (λ asked. line_value asked.line ≡ help → ShowsHelp words)
  pub refusal : IfErr r (Refuses (asked_by words wait))

-- where something is wrong with the words, they aren't understood
asked_amiss : (words : List Text) (wait : Wait) (k : ErrorKind) → IsAmong k (faults_of words) → asked_by words wait ≡ Err not_understood
asked_amiss words wait k among = go (faults_of words) refl among
  where
    go : (faults : Kinds) → faults_of words ≡ faults → IsAmong k faults → asked_by words wait ≡ Err not_understood
    go [] is h = absurd h
    go (x ∷ xs) is h = rw is refl

-- where clap gives no matches
pub without_matches : (words : List Text) (wait : Wait) (k : ErrorKind) (r : Result Asked LineError)
    → IfOk r (λ asked. (line_value asked.line ≡ help) × ((k ≡ DisplayHelp) ⊎ (k ≡ DisplayVersion)))
    → (k ≡ OutOfMemory → IfErr r (λ e. e ≡ NoMemory)) → IfErr r IsMisunderstood → (k ≡ OutOfMemory) ⊎ IsAmong k (faults_of words) → IsRead words wait r
without_matches words wait k (Ok asked) shown memory known (inl is) = elim shown.1 as (λ _. IsRead words wait (Ok asked)) [
  | inl h ↦ absurd (cc)
  | inr h ↦ absurd (cc)
]
without_matches words wait k (Ok asked) shown memory known (inr among) = record {
  line = inr shown.0;
  help = λ _. elim shown.1 as (λ _. ShowsHelp words) [
    | inl h ↦ inl (subst (λ x. IsAmong x (faults_of words)) h among)
    | inr h ↦ inr (subst (λ x. IsAmong x (faults_of words)) h among)
  ];
  refusal = tt;
}
without_matches words wait k (Err e) shown memory known (inl is) = record { line = tt; help = tt; refusal = subst (Refuses (asked_by words wait)) (sym (memory is)) tt }
without_matches words wait k (Err e) shown memory known (inr among) = record { line = tt; help = tt; refusal = misunderstood_refuses (asked_by words wait) e (asked_amiss words wait k among) known }
