-- How objects are kept whose last name goes.
use Rattle.std.proofs.Common.{◌≡◌, ◌≤◌, ◌+◌, ◌/◌, ℕ, zero, suc, List, [], ◌∷◌, length, drop, Option, Result, Ok, Err, arith, refl, sym, ap, subst}
use Rattle.std.proofs.Math.Path.{ap₂}
use Rattle.file_system.specs.declared.file_system.FileSystem.{Ghosts}
use Rattle.file_system.specs.declared.handle.Handle.{Handle}
use Rattle.fuse.specs.Forgets.{all_forgets, forgets_in}
use Rattle.fuse.specs.declared.forgets.Forget.{Forget}
use Rattle.model.specs.declared.errno.Errno.{Errno}
use Rattle.model.specs.declared.errno.Errno.TheVariants as errno
use Rattle.model.specs.declared.reply.Stat.{Stat}
use Rattle.served.specs.Keeping as spec
use Rattle.served.specs.Known.{Known, without_removed}
use Rattle.served.specs.Nodes.{node_of}
use Rattle.served.specs.Turns.{Turn, ◌▹◌, gives, if_memory, Came}
use Rattle.served.specs.declared.keeping.Kept.{Kept}
use Rattle.served.specs.declared.marks.Asker.{Asker}
use Rattle.served.proofs.TurnLaws.{came_given, came_kept, came_lost, came_then}

abbrev Outcome : Type 0
Outcome = Result (Option ℕ) Errno × Known

-- what is done behind that an object was kept: where there is no memory, and where there is
abbrev lost : Known → Handle → Kept → Turn Outcome
lost k handle what = spec.lets_go (spec.descriptor_of what) ▹ (λ d. gives (Err errno.ENOMEM, without_removed (node_of handle) k))

abbrev noted : Known → Asker → Handle → Stat → Kept → Turn Outcome
noted k asker handle stat what = gives (Ok (spec.descriptor_of what), spec.remembered k asker handle stat what)

module _ {S : Type 0} (G : Ghosts S) (k : Known) (asker : Asker) (handle : Handle) (path : List ℕ) (stat : Stat) where
  behind : (old mid new : S) (what : Kept) (r : Outcome) → Came G old mid (spec.keeps path stat) what → Came G mid new (if_memory (lost k handle what) (noted k asker handle stat what)) r
      → Came G old new (spec.remembers k asker handle path stat) r
  behind old mid new what r first then =
      came_then G old mid new {A = Kept} {B = Outcome} (spec.keeps path stat) (λ what. if_memory (lost k handle what) (noted k asker handle stat what)) what r first then

  pub remembers-kept : (old new : S) (what : Kept) (held : Option ℕ) (known : Known) → Came G old new (spec.keeps path stat) what → held ≡ spec.descriptor_of what
      → known ≡ spec.remembered k asker handle stat what → Came G old new (spec.remembers k asker handle path stat) (Ok held, known)
  remembers-kept old new what held known first is so =
      let told : Outcome = (Ok held, known) in
      behind old new new what told first
      (came_kept G new new {R = Outcome} (lost k handle what) (noted k asker handle stat what) told
      (came_given G new {R = Outcome} (Ok (spec.descriptor_of what), spec.remembered k asker handle stat what) told
      (ap₂ (λ (held : Option ℕ) (known : Known). (let told : Outcome = (Ok held, known) in told)) is so)))

  pub remembers-lost : (old mid new : S) (what : Kept) (held : Option ℕ) (known : Known) → Came G old mid (spec.keeps path stat) what → held ≡ spec.descriptor_of what
      → known ≡ without_removed (node_of handle) k → Came G mid new (spec.lets_go held) tt → Came G old new (spec.remembers k asker handle path stat) (Err errno.ENOMEM, known)
  remembers-lost old mid new what held known first is so goes =
      let told : Known → Outcome = λ known. (Err errno.ENOMEM, known) in
      subst (λ (known : Known). Came G old new (spec.remembers k asker handle path stat) (told known)) (sym so)
      (behind old mid new what (told (without_removed (node_of handle) k)) first
      (came_lost G mid new {R = Outcome} (lost k handle what) (noted k asker handle stat what) (told (without_removed (node_of handle) k))
      (came_then G mid new new {A = Unit {0}} {B = Outcome} (spec.lets_go (spec.descriptor_of what)) (λ d. gives (told (without_removed (node_of handle) k))) tt (told (without_removed (node_of handle) k))
      (subst (λ (held : Option ℕ). Came G mid new (spec.lets_go held) tt) is goes)
      (came_given G new {R = Outcome} (told (without_removed (node_of handle) k)) (told (without_removed (node_of handle) k)) refl))))

module _ {S : Type 0} (G : Ghosts S) where
  -- several nodes are forgotten: none, and one more
  pub forgets_all-none : (s : S) (k known : Known) (left : List Forget) → left ≡ [] → known ≡ k → Came G s s (spec.forgets_all k left) known
  unfolding spec.forgets_all
  forgets_all-none s k known left is same =
      subst (λ (fs : List Forget). Came G s s (spec.forgets_all k fs) known) (sym is) (came_given G s {R = Known} k known same)

  pub forgets_all-one : (old mid new : S) (k next known : Known) (left behind : List Forget) (f : Forget) → left ≡ f ∷ behind → Came G old mid (spec.forgets k f.node) next
      → Came G mid new (spec.forgets_all next behind) known → Came G old new (spec.forgets_all k left) known
  unfolding spec.forgets_all
  forgets_all-one old mid new k next known left behind f is first then =
      subst (λ (fs : List Forget). Came G old new (spec.forgets_all k fs) known) (sym is)
      (came_then G old mid new {A = Known} {B = Known} (spec.forgets k f.node) (λ known. spec.forgets_all known behind) next known first then)

-- how many nodes are forgotten at once
count_in : (n : ℕ) (bytes : List ℕ) → length (forgets_in n bytes) ≡ n
unfolding forgets_in
count_in zero bytes = refl
count_in (suc n) bytes = ap suc (count_in n (drop 16 bytes))

-- there are no more than bytes
pub few_of : (bytes : List ℕ) → length (all_forgets bytes) ≤ length bytes
few_of bytes = subst (λ (n : ℕ). n ≤ length bytes) (sym (count_in (length bytes / 16) bytes)) (omega arith)

pub fewer : (left behind : List Forget) (f : Forget) (counter end : ℕ) → left ≡ f ∷ behind → counter + length left ≤ end → counter + 1 + length behind ≤ end
fewer left behind f counter end is few =
    let few_now : counter + length (f ∷ behind) ≤ end = subst (λ (fs : List Forget). counter + length fs ≤ end) is few in
    omega (arith, few_now)

-- none is left at the end
pub none_left : (left : List Forget) (counter end : ℕ) → end ≤ counter → counter + length left ≤ end → left ≡ []
none_left [] counter end past few = refl
none_left (f ∷ fs) counter end past few = absurd (omega (arith, few, past))
