-- The records of two epochs, one after the other.
use Rattle.std.proofs.Common.{◌≡◌, ℕ, Bool, true, false, List, [], ◌+◌, ◌∷◌, ◌++◌, arith, drop, refl, sym, ap, subst, ◌∙◌}
use Rattle.std.specs.Prelude.{All, if◌then◌else◌}
use Rattle.std.proofs.lemmas.List.{map-append}
use Rattle.std.proofs.lemmas.List.Elements.{All-append, All-nil, All-cons, All-head, All-tail}
use Rattle.model.specs.declared.limits.Limits.{Limits}
use Rattle.layout.specs.Log.{HoldsBodies, LogHolds}
use Rattle.layout.specs.Record.{Change, IsChange, change_bytes}
use Rattle.model.specs.Records.{applied, cost_of_all}
use Rattle.model.specs.Volumes.{Volume}
use Rattle.model.specs.declared.costs.Costs.{Costs}
use Rattle.images.specs.Soundness.{Detail, by_bytes, by_sizes}
use Rattle.oplog.specs.LogEnd.{LogEnd, all_bodies}
use Rattle.oplog.specs.SavedLog.{HoldsLeaving, Saved, TellsLog, end_of}
use Rattle.replay.specs.Volumes.{LeadTo, ReplaysFor, ReplaysIn, SavesRecordsIn, bodies_of}
use Rattle.replay.proofs.GraphLaws.{replays_by_one}

all_first : (P : Change → Type 0) (one two : List Change) → All P (one ++ two) → All P one
all_first P [] two all = All-nil P
all_first P (c ∷ one) two all = All-cons P c one (All-head P c (one ++ two) all) (all_first P one two (All-tail P c (one ++ two) all))

all_second : (P : Change → Type 0) (one two : List Change) → All P (one ++ two) → All P two
all_second P [] two all = all
all_second P (c ∷ one) two all = all_second P one two (All-tail P c (one ++ two) all)

-- the changes that two lists of bodies have
pub record InTwo (changes : List Change) (first second : List (List ℕ)) : Type 0 where
  pub one : List Change
  pub two : List Change
  pub joined : changes ≡ one ++ two
  pub first_is : bodies_of one ≡ first
  pub second_is : bodies_of two ≡ second

in_two : (changes : List Change) (first second : List (List ℕ)) → bodies_of changes ≡ first ++ second → InTwo changes first second
in_two changes [] second is = record { one = []; two = changes; joined = refl; first_is = refl; second_is = is }
in_two [] (body ∷ first) second is = absurd (cc)
in_two (c ∷ changes) (body ∷ first) second is =
    let rest = in_two changes first second (ap (drop 1) is) in
    let here : change_bytes c ≡ body = cc in
    record {
      one = c ∷ rest.one;
      two = rest.two;
      joined = ap (λ (l : List Change). c ∷ l) rest.joined;
      first_is = λ i. here i ∷ rest.first_is i;
      second_is = rest.second_is;
    }

replays_parts : (detail : Detail) (limits : Limits) (one two : List Change) (old new : Volume) → ReplaysIn detail limits old (one ++ two) new → (mid : Volume) × ReplaysIn detail limits old one mid × ReplaysIn detail limits mid two new
replays_parts detail limits [] two old new replays = (old, refl, replays)
replays_parts detail limits (c ∷ one) two old new replays =
    let rest = replays_parts detail limits one two (applied c old) new replays.1 in
    (rest.0, (replays.0, rest.1), rest.2)

-- The records of each epoch lead on from those of the one before.
pub record LeadOn (detail : Detail) (limits : Limits) (first second : List ℕ) (changes : List Change) (old new : Volume) : Type 0 where
  pub one : List Change
  pub two : List Change
  pub joined : changes ≡ one ++ two
  pub mid : Volume
  pub leads : LeadTo detail limits first one old mid
  pub leads_on : LeadTo detail limits second two mid new

pub lead_on : (detail : Detail) (limits : Limits) (nvram : List ℕ) (saved : Saved) (changes : List Change) (old new : Volume) → TellsLog nvram saved → SavesRecordsIn detail limits nvram saved changes old new
    → LeadOn detail limits saved.first.records saved.second.records changes old new
lead_on detail limits nvram saved changes old new tells saves =
    let there = tells.held (bodies_of changes) saves.held in
    let parts = in_two changes there.0 there.1 there.2 in
    let are = subst (All (IsChange limits.has_attributes)) parts.joined saves.are in
    let steps = replays_parts detail limits parts.one parts.two old new (subst (λ (l : List Change). ReplaysIn detail limits old l new) parts.joined (replays_by_one detail limits changes old new saves.replays)) in
    record {
      one = parts.one;
      two = parts.two;
      joined = parts.joined;
      mid = steps.0;
      leads = record {
        are = all_first (IsChange limits.has_attributes) parts.one parts.two are;
        held = subst (HoldsBodies saved.first.records) (sym parts.first_is) there.3;
        replays = steps.1;
      };
      leads_on = record {
        are = all_second (IsChange limits.has_attributes) parts.one parts.two are;
        held = subst (HoldsBodies saved.second.records) (sym parts.second_is) there.4;
        replays = steps.2;
      };
    }

pub joined_bodies : (changes one two : List Change) → changes ≡ one ++ two → bodies_of changes ≡ bodies_of one ++ bodies_of two
joined_bodies changes one two is = ap bodies_of is ∙ map-append change_bytes one two

-- records one after the other cost what each part does
pub costs_joined : (detail : Detail) (limits : Limits) (costs : Costs) (one two : List Change) (v mid : Volume) → ReplaysIn detail limits v one mid → cost_of_all costs v (one ++ two) ≡ cost_of_all costs v one + cost_of_all costs mid two
costs_joined detail limits costs [] two v mid is = ap (λ (u : Volume). cost_of_all costs u two) (sym is) ∙ omega arith
costs_joined detail limits costs (c ∷ one) two v mid replays = omega (arith, costs_joined detail limits costs one two (applied c v) mid replays.1)

-- ---- records that were read

-- records that apply one by one
replays_for : (detail : Detail) (limits : Limits) (changes : List Change) (v w : Volume) → ReplaysIn detail limits v changes w → ReplaysFor detail limits v changes w
replays_for by_bytes limits [] v w replays = replays
replays_for by_bytes limits (c ∷ changes) v w replays = (replays.0, replays_for by_bytes limits changes (applied c v) w replays.1)
replays_for by_sizes limits [] v w replays = replays
replays_for by_sizes limits (c ∷ changes) v w replays = (replays.0, replays_for by_sizes limits changes (applied c v) w replays.1)

replays_more : (detail : Detail) (limits : Limits) (one two : List Change) (v mid w : Volume) → ReplaysIn detail limits v one mid → ReplaysIn detail limits mid two w → ReplaysIn detail limits v (one ++ two) w
replays_more detail limits [] two v mid w first second = subst (λ (u : Volume). ReplaysIn detail limits u two w) first second
replays_more detail limits (c ∷ one) two v mid w first second = (first.0, replays_more detail limits one two (applied c v) mid w first.1 second)

half_of_any : (x y : Bool) (p q s : LogEnd) (half : ℕ) → p.half ≡ half → q.half ≡ half → s.half ≡ half → (if x then p else (if y then q else s)).half ≡ half
half_of_any true y p q s half one two three = one
half_of_any false true p q s half one two three = two
half_of_any false false p q s half one two three = three

pub end_half : (saved : Saved) (first second : ℕ) → (end_of saved first second).half ≡ saved.half
end_half saved first second = half_of_any saved.second.is_open saved.first.is_open _ _ _ saved.half refl refl refl

-- what both epochs hold is saved in the log
pub saves_both : (detail : Detail) (limits : Limits) (nvram : List ℕ) (saved : Saved) (one two : List Change) (v mid w : Volume) (first second : ℕ) → TellsLog nvram saved
    → LeadTo detail limits saved.first.records one v mid → LeadTo detail limits saved.second.records two mid w
    → HoldsLeaving saved.first.records (bodies_of one) first → HoldsLeaving saved.second.records (bodies_of two) second → SavesRecordsIn detail limits nvram saved (one ++ two) v w
saves_both detail limits nvram saved one two v mid w first second tells leads leads_on held held_too =
    let stands = tells.ends (bodies_of one) (bodies_of two) first second held held_too in
    let all : all_bodies stands.bodies ≡ bodies_of (one ++ two) = stands.all ∙ sym (joined_bodies (one ++ two) one two refl) in
    record {
      are = All-append (IsChange limits.has_attributes) one two leads.are leads_on.are;
      held = subst (λ (n : ℕ). LogHolds n saved.generation nvram (bodies_of (one ++ two))) (end_half saved first second)
          (subst (LogHolds (end_of saved first second).half saved.generation nvram) all stands.stands.holds);
      replays = replays_for detail limits (one ++ two) v w (replays_more detail limits one two v mid w leads.replays leads_on.replays);
    }
