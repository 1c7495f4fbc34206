-- Commands done one after the other, and what is shown of them.
use Rattle.std.proofs.Common.{◌≡◌, inl, inr, ℕ, ◌+◌, ◌*◌, ◌<◌, ◌≤◌, ◌^◌, ◌-◌, Bool, true, List, [], ◌∷◌, ◌++◌, length, length-drop, take, drop, Option, Some, None, arith, refl, sym, ◌∙◌, ap, subst, append_assoc}
use Rattle.std.specs.Io.KnownBytes.{Appends, Keeps}
use Rattle.std.proofs.lemmas.Grind.{flat_map-append}
use Rattle.std.proofs.lemmas.List.{length-append, append-nil, take_all}
use Rattle.std.proofs.Math.Seq.{take-add}
use Rattle.model.specs.declared.command.Command.{Command}
use Rattle.model.specs.declared.reply.Reply.{Reply}
use Rattle.model.specs.States.{State}
use Rattle.station.specs.declared.station.Station.{Ghosts}
use Rattle.mount.specs.Applying.{RunsAt}
use Rattle.mount.specs.Systems.{mounted, Serves}
use Rattle.mount.specs.declared.fs.Fs.{Fs}
use Rattle.mount.specs.declared.fs.TheConstants.{POINTS}
use Rattle.std.specs.Prelude.{Err}
use Rattle.session.specs.Answers.{cut_line, lines_of_steps, shown, EndsAnswer, EndsCut, EndsReply, AreAnswered, HasDone, IsAnsweredBy}
use Rattle.session.specs.declared.status.Status.{Status}
use Rattle.session.specs.declared.status.Status.TheVariants.{Done, NotUnderstood, FileFault, Cut, NotMounted, NotACommand, NoMemory, Refused, Faulty}

-- what a writer's known bytes gained by nothing, and by two writes
pub appends_none : (o : Option (List ℕ)) → Appends o o []
appends_none None = tt
appends_none (Some xs) = sym (append-nil xs)

pub appends_twice : (a b c : Option (List ℕ)) (xs ys : List ℕ) → Appends a b xs → Appends b c ys → Appends a c (xs ++ ys)
appends_twice None b c xs ys first second = tt
appends_twice (Some x) None c xs ys first second = absurd first
appends_twice (Some x) (Some y) None xs ys first second = absurd second
appends_twice (Some x) (Some y) (Some z) xs ys first second = second ∙ ap (λ l. l ++ ys) first ∙ append_assoc x xs ys

-- a call that failed before kept known bytes
pub appends_kept : (a b c : Option (List ℕ)) (xs : List ℕ) → Keeps a b → Appends b c xs → Appends a c xs
appends_kept None b c xs kept appends = tt
appends_kept (Some x) None c xs kept appends = absurd kept
appends_kept (Some x) (Some y) None xs kept appends = absurd appends
appends_kept (Some x) (Some y) (Some z) xs kept appends = appends ∙ ap (λ l. l ++ xs) kept

pub kept_none : (a b c : Option (List ℕ)) → Keeps a b → Appends b c [] → Keeps a c
kept_none None b c kept appends = tt
kept_none (Some x) None c kept appends = absurd kept
kept_none (Some x) (Some y) None kept appends = absurd appends
kept_none (Some x) (Some y) (Some z) kept appends = appends ∙ append-nil y ∙ kept

-- some of the bytes that are left were written
pub more_written : (o a b : Option (List ℕ)) (bytes : List ℕ) (at count : ℕ) → at ≤ length bytes → count ≤ length (take (length bytes - at) (drop at bytes)) → Appends o a (take at bytes)
    → Appends a b (take count (take (length bytes - at) (drop at bytes))) → (at + count ≤ length bytes) × Appends o b (take (at + count) bytes)
more_written o a b bytes at count within few before now =
    let left : take (length bytes - at) (drop at bytes) ≡ drop at bytes = take_all (length bytes - at) (drop at bytes) (omega (arith, length-drop at bytes)) in
    let bound : count ≤ length (drop at bytes) = subst (λ (l : List ℕ). count ≤ length l) left few in (
      omega (arith, bound, length-drop at bytes, within),
      subst (λ (l : List ℕ). Appends o b l) (sym (take-add at count bytes)) (appends_twice o a b (take at bytes) (take count (drop at bytes)) before (subst (λ (l : List ℕ). Appends a b (take count l)) left now)),
    )

-- the lines of one step more
pub lines_more : (steps : List (Command × Reply)) (command : Command) (reply : Reply) → lines_of_steps steps ++ shown reply ≡ lines_of_steps (steps ++ (command, reply) ∷ [])
lines_more steps command reply = ap (λ l. lines_of_steps steps ++ l) (sym (append-nil (shown reply))) ∙ sym (flat_map-append (λ (step : Command × Reply). shown step.1) steps ((command, reply) ∷ []))

fits_first : (a n m : ℕ) → n ≤ m → a + POINTS * m < 2 ^ 62 → a + POINTS * n < 2 ^ 62
fits_first a n m le lasts = omega arith

is_young : (a b n : ℕ) → b ≤ a + POINTS * n → a + POINTS * (n + 1) < 2 ^ 62 → b + POINTS ≤ 2 ^ 62
is_young a b n le lasts = omega arith

-- how an answer ends where its showing does
pub cut_ends : (reply : Reply) (was_cut : Bool → Type 0) (o o' : Option (List ℕ)) (status : Status) → was_cut true → EndsCut o o' status → EndsAnswer reply was_cut o o' (Err status)
cut_ends reply was_cut o o' Cut is ends = (is, ends)
cut_ends reply was_cut o o' FileFault is ends = (cut_line, (ends.0, inr refl, ends.1))
cut_ends reply was_cut o o' Done is ends = absurd ends
cut_ends reply was_cut o o' NotUnderstood is ends = absurd ends
cut_ends reply was_cut o o' NotMounted is ends = absurd ends
cut_ends reply was_cut o o' NotACommand is ends = absurd ends
cut_ends reply was_cut o o' NoMemory is ends = absurd ends
cut_ends reply was_cut o o' Refused is ends = absurd ends
cut_ends reply was_cut o o' Faulty is ends = absurd ends

pub reply_ends : (reply : Reply) (was_cut : Bool → Type 0) (o o' : Option (List ℕ)) (status : Status) → EndsReply reply o o' (Err status) → EndsAnswer reply was_cut o o' (Err status)
reply_ends reply was_cut o o' Cut ends = absurd ends
reply_ends reply was_cut o o' FileFault ends = (shown reply, (ends.0, inl refl, ends.1))
reply_ends reply was_cut o o' Done ends = absurd ends
reply_ends reply was_cut o o' NotUnderstood ends = absurd ends
reply_ends reply was_cut o o' NotMounted ends = absurd ends
reply_ends reply was_cut o o' NotACommand ends = absurd ends
reply_ends reply was_cut o o' NoMemory ends = ends
reply_ends reply was_cut o o' Refused ends = absurd ends
reply_ends reply was_cut o o' Faulty ends = absurd ends

module _ {S : Type 0} {G : Ghosts S} where
  -- no command so far
  pub done_none : (fs : Fs S G) → ((s : State) → Serves (mounted fs s) → RunsAt fs s fs []) → HasDone fs fs []
  done_none fs begins = record { each = refl; lasts = omega arith; ran = λ s serves lasts. begins s serves }

  answered_push : (first fs next : Fs S G) (steps : List (Command × Reply)) (command : Command) (reply : Reply) → AreAnswered first steps fs → IsAnsweredBy fs next command reply → AreAnswered first (steps ++ (command, reply) ∷ []) next
  answered_push first fs next [] command reply so_far answered = (next, subst (λ (f : Fs S G). IsAnsweredBy f next command reply) so_far answered, refl)
  answered_push first fs next (step ∷ steps) command reply (mid, one, rest) answered = (mid, one, answered_push mid fs next steps command reply rest answered)

  -- one more
  pub done_more : (first fs next : Fs S G) (steps : List (Command × Reply)) (command : Command) (reply : Reply) → HasDone first fs steps → IsAnsweredBy fs next command reply → HasDone first next (steps ++ (command, reply) ∷ [])
  done_more first fs next steps command reply done answered =
      let count : length (steps ++ (command, reply) ∷ []) ≡ length steps + 1 = length-append steps ((command, reply) ∷ []) in
      record {
        each = answered_push first fs next steps command reply done.each answered;
        lasts = omega (arith, done.lasts, answered.lasts, count);
        ran = λ s serves lasts.
            let all : first.system.log.epoch + POINTS * (length steps + 1) < 2 ^ 62 = subst (λ n. first.system.log.epoch + POINTS * n < 2 ^ 62) count lasts in
            answered.goes_on first s steps (done.ran s serves (fits_first first.system.log.epoch (length steps) (length steps + 1) (omega arith) all))
            (is_young first.system.log.epoch fs.system.log.epoch (length steps) done.lasts all);
      }
