-- How turns come about: one after the other.
use Rattle.std.proofs.Common.{◌≡◌, ◌≢◌, ℕ, Bool, true, false, List, [], ◌∷◌, ◌++◌, Some, None, Result, Ok, Err, refl, sym, ap, subst}
use Rattle.model.specs.Paths.{IsName, parts, parts_behind, start_number}
use Rattle.model.specs.declared.command.Command.{Command}
use Rattle.model.specs.declared.errno.Errno.{Errno}
use Rattle.model.specs.declared.reply.Reply.{Reply}
use Rattle.file_system.specs.declared.file_system.FileSystem.{Ghosts}
use Rattle.served.specs.Turns.{Step, Turn, either, Reads, refusal_in, generations_behind, gives, gives_some, asks, ◌▹◌, handle_now, LeadsFrom, along, with_path, asks_for, AreApplied, Came, if_memory}

module _ {S : Type 0} (G : Ghosts S) where
  -- behind the steps the generations are those of the file system
  behind_all : (old new : S) (steps : List Step) → AreApplied G old steps new → generations_behind (G.generations old) steps ≡ G.generations new
  behind_all old new [] are = ap G.generations (sym are)
  behind_all old new (step ∷ steps) (next, one, same, more) = subst (λ (g : ℕ → ℕ). generations_behind g steps ≡ G.generations new) (sym same) (behind_all next new steps more)

  applied_on : (old mid new : S) (steps more : List Step) → AreApplied G old steps mid → AreApplied G mid more new → AreApplied G old (steps ++ more) new
  applied_on old mid new [] more first then = subst (λ (s : S). AreApplied G s more new) first then
  applied_on old mid new (step ∷ steps) more (next, one, same, rest) then = (next, one, same, applied_on next mid new steps more rest then)

  pub came_gives : (s : S) {R : Type 0} (r : R) → Came G s s (gives r) r
  came_gives s r = ([], refl, (refl, refl))

  pub came_some : (s : S) {R : Type 0} (P : R → Type 0) (r : R) → P r → Came G s s (gives_some P) r
  came_some s P r is = ([], refl, (refl, is))

  came_asked : (old new : S) {A : Type 0} (tells : A → Reply) (command : Command) (reply : Reply) (found : Result A Errno) → G.applies old new command reply → Reads tells reply found
      → Came G old new (asks tells command) found
  came_asked old new tells command reply found applied reads =
      let step : Step = record { asked = command; answer = reply; generations = G.generations new } in
      (step ∷ [], (new, applied, refl, refl), (step, refl, refl, reads))

  -- a command was asked, and told something, or was refused
  pub came_told : (old new : S) {A : Type 0} (tells : A → Reply) (command : Command) (a : A) → G.applies old new command (tells a) → Came G old new (asks tells command) (Ok a)
  came_told old new tells command a applied = came_asked old new tells command (tells a) (Ok a) applied refl

  pub came_untold : (old new : S) {A : Type 0} (tells : A → Reply) (command : Command) (reply : Reply) (errno : Errno) → G.applies old new command reply → ((a : A) → reply ≢ tells a)
      → errno ≡ refusal_in reply → Came G old new (asks tells command) (Err errno)
  came_untold old new tells command reply errno applied other is = came_asked old new tells command reply (Err errno) applied (other, is)

  pub came_then : (old mid new : S) {A B : Type 0} (first : Turn A) (rest : A → Turn B) (a : A) (b : B) → Came G old mid first a → Came G mid new (rest a) b → Came G old new (first ▹ rest) b
  came_then old mid new first rest a b (before, led, does) (more, led_on, does_on) =
      (before ++ more, applied_on old mid new before more led led_on, (a, before, more, refl, does, subst (λ (g : ℕ → ℕ). rest a g more b) (sym (behind_all old mid before led)) does_on))

  pub came_handle : (s : S) (n : ℕ) → Came G s s (handle_now n) (record { number = n; generation = G.generations s n })
  came_handle s n = ([], refl, (refl, refl))

  -- along a path from a number
  pub came_along : (old new : S) {R : Type 0} (wants : R) (n : ℕ) (names text : List ℕ) (rest : List ℕ → Turn R) (r : R) → LeadsFrom n names text → Came G old new (rest text) r
      → Came G old new (with_path wants n names rest) r
  came_along old new {R} wants n names text rest r leads done =
      came_then old old new (along n names) (λ found. elim found [ Some t ↦ rest t | None ↦ gives wants ]) (Some text) r ([], refl, (refl, leads)) done

  pub came_nowhere : (s : S) {R : Type 0} (wants : R) (n : ℕ) (names : List ℕ) (rest : List ℕ → Turn R) → Came G s s (with_path wants n names rest) wants
  came_nowhere s {R} wants n names rest =
      came_then s s s (along n names) (λ found. elim found [ Some t ↦ rest t | None ↦ gives wants ]) None wants ([], refl, refl) (came_gives s wants)

  -- where a command was done, and where it was refused
  pub came_done : (old mid new : S) {A R : Type 0} (tells : A → Reply) (command : Command) (refused : Errno → Turn R) (done : A → Turn R) (a : A) (r : R)
      → Came G old mid (asks tells command) (Ok a) → Came G mid new (done a) r → Came G old new (asks_for tells command refused done) r
  came_done old mid new tells command refused done a r first then =
      came_then old mid new (asks tells command) (λ found. elim found [ Ok x ↦ done x | Err errno ↦ refused errno ]) (Ok a) r first then

  pub came_refused : (old mid new : S) {A R : Type 0} (tells : A → Reply) (command : Command) (refused : Errno → Turn R) (done : A → Turn R) (errno : Errno) (r : R)
      → Came G old mid (asks tells command) (Err errno) → Came G mid new (refused errno) r → Came G old new (asks_for tells command refused done) r
  came_refused old mid new tells command refused done errno r first then =
      came_then old mid new (asks tells command) (λ found. elim found [ Ok x ↦ done x | Err e ↦ refused e ]) (Err errno) r first then

  -- where a test holds, and where it doesn't
  pub came_then_if : (old new : S) {R : Type 0} (test : Bool) (this other : Turn R) (r : R) → test ≡ true → Came G old new this r → Came G old new (either test this other) r
  came_then_if old new test this other r holds done = subst (λ (b : Bool). Came G old new (either b this other) r) (sym holds) done

  pub came_else : (old new : S) {R : Type 0} (test : Bool) (this other : Turn R) (r : R) → test ≡ false → Came G old new other r → Came G old new (either test this other) r
  came_else old new test this other r not done = subst (λ (b : Bool). Came G old new (either b this other) r) (sym not) done

  -- this was given, and nothing was asked
  pub came_given : (s : S) {R : Type 0} (r given : R) → given ≡ r → Came G s s (gives r) given
  came_given s r given same = ([], refl, (refl, same))

  pub came_as : (old new : S) {R : Type 0} (turn : Turn R) (r given : R) → given ≡ r → Came G old new turn r → Came G old new turn given
  came_as old new {R} turn r given is done = subst (λ (x : R). Came G old new turn x) (sym is) done

  pub came_by : (old new : S) {A : Type 0} (tells : A → Reply) (command asked : Command) (found : Result A Errno) → asked ≡ command → Came G old new (asks tells asked) found
      → Came G old new (asks tells command) found
  came_by old new tells command asked found is done = subst (λ (c : Command). Came G old new (asks tells c) found) is done

  pub came_path : (old new : S) {R : Type 0} (turn : List ℕ → Turn R) (path text : List ℕ) (r : R) → path ≡ text → Came G old new (turn path) r → Came G old new (turn text) r
  came_path old new turn path text r is done = subst (λ (p : List ℕ). Came G old new (turn p) r) is done

  -- a command that a path is in was done along one, or was refused
  pub came_done_along : (old mid new : S) {A R : Type 0} (wants : R) (n : ℕ) (names text : List ℕ) (tells : A → Reply) (asked : List ℕ → Command) (command : Command)
      (refused : Errno → Turn R) (done : List ℕ → A → Turn R) (a : A) (r : R) → LeadsFrom n names text → command ≡ asked text → Came G old mid (asks tells command) (Ok a)
      → Came G mid new (done text a) r → Came G old new (with_path wants n names (λ path. asks_for tells (asked path) refused (done path))) r
  came_done_along old mid new wants n names text tells asked command refused done a r leads is first then =
      came_along old new wants n names text (λ path. asks_for tells (asked path) refused (done path)) r leads
      (came_done old mid new tells (asked text) refused (done text) a r (subst (λ (x : Command). Came G old mid (asks tells x) (Ok a)) is first) then)

  pub came_refused_along : (old mid new : S) {A R : Type 0} (wants : R) (n : ℕ) (names text : List ℕ) (tells : A → Reply) (asked : List ℕ → Command) (command : Command)
      (refused : Errno → Turn R) (done : List ℕ → A → Turn R) (errno : Errno) (r : R) → LeadsFrom n names text → command ≡ asked text → Came G old mid (asks tells command) (Err errno)
      → Came G mid new (refused errno) r → Came G old new (with_path wants n names (λ path. asks_for tells (asked path) refused (done path))) r
  came_refused_along old mid new wants n names text tells asked command refused done errno r leads is first then =
      came_along old new wants n names text (λ path. asks_for tells (asked path) refused (done path)) r leads
      (came_refused old mid new tells (asked text) refused (done text) errno r (subst (λ (x : Command). Came G old mid (asks tells x) (Err errno)) is first) then)

  -- where there is memory, and where there is none
  pub came_kept : (old new : S) {R : Type 0} (lost done : Turn R) (r : R) → Came G old new done r → Came G old new (if_memory lost done) r
  unfolding if_memory
  came_kept old new lost done r came =
      came_then old old new (gives_some (λ (is_had : Bool). Unit {0})) (λ is_had. either is_had done lost) true r (came_some old (λ (is_had : Bool). Unit {0}) true tt) came

  pub came_lost : (old new : S) {R : Type 0} (lost done : Turn R) (r : R) → Came G old new lost r → Came G old new (if_memory lost done) r
  unfolding if_memory
  came_lost old new lost done r came =
      came_then old old new (gives_some (λ (is_had : Bool). Unit {0})) (λ is_had. either is_had done lost) false r (came_some old (λ (is_had : Bool). Unit {0}) false tt) came

-- what the text of a path was built of
pub leads_from : (n : ℕ) (names text slice : List ℕ) → slice ≡ text → start_number text ≡ Some n → parts_behind text ≡ parts names → (IsName names → parts_behind text ≡ names ∷ [])
    → LeadsFrom n names slice
leads_from n names text slice same starts goes_on one_name =
    subst (λ (x : List ℕ). LeadsFrom n names x) (sym same) (record { starts = starts; goes_on = goes_on; one_name = one_name })
