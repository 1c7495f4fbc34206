use Rattle.std.proofs.Common.{◌≡◌, ◌≢◌, ◌∙◌, ◌+◌, ℕ, List, [], Option, ap, arith, length, sym, subst}
use Rattle.std.specs.Prelude.{IsFalse, map}
use Rattle.std.proofs.lemmas.Bool.{false≢true}
use Rattle.layout.specs.Record.{change_bytes}
use Rattle.model.specs.States.{State}
use Rattle.model.specs.Trees.{Description}
use Rattle.oplog.specs.Batches.{IsBatchOf}
use Rattle.oplog.specs.LogEnd.{LogEnd, behind_records}
use Rattle.system.specs.Ahead.{HasStateAhead}
use Rattle.system.specs.Serving.{LeavesEither}
use Rattle.system.specs.Systems.{IsServing, system_parts}
use Rattle.system.specs.Waits.{Waits}
use Rattle.system.proofs.AheadLaws.{committed, idle, log_stands, still_left, while_committing, within}
use Rattle.system.proofs.RoomLaws.{few_free, free_of, free_with}
use Rattle.system.proofs.system.System.commit.Given.{Over}
use Rattle.system.proofs.system.System.commit.Goals.{After-append_all}
use Rattle.system.proofs.system.System.commit.Goals as goal

-- some records waited
some : (g : Over) (c : After-append_all g) → c.waiting.inside.batch ≢ []
some g c = λ none. false≢true (sym c.if-is_empty.false ∙ c.is_empty.ensures.empty.1 (sym (ap (λ (w : Waits). w.batch) c.waiting.view_is) ∙ none))

-- they are what a state is ahead by
waits : (g : Over) (c : After-append_all g) (table : ℕ → Option Description) (s kept : State) → (ahead : HasStateAhead {G = g.S.Station} c.args.self.now c.args.waiting.now table s kept)
    → IsBatchOf (map change_bytes ahead.waiting) c.waiting.inside.batch
waits g c table s kept ahead = subst (λ (w : Waits). IsBatchOf (map change_bytes ahead.waiting) w.batch) (sym c.waiting.view_is) ahead.batch

-- within, a cut leaves what was kept or what memory stands for
leaves : (g : Over) (c : After-append_all g) (table : ℕ → Option Description) (s kept : State) → HasStateAhead {G = g.S.Station} c.args.self.now c.args.waiting.now table s kept
    → LeavesEither (g.S.Station.meaning c.args.self.now.blocks.buffers.station) (g.S.Station.meaning c.append_all.new.station) kept s
leaves g c table s kept ahead =
    let f = c.args.self.now in
    while_committing ahead c.cuts_open.ensures f.sectors f.half (g.S.Station.meaning c.append_all.new.station)
    (c.append_all.ensures.any_moment ahead.served.settled.root.generation ahead.served.lasts.bodies (map change_bytes ahead.waiting) (waits g c table s kept ahead) (log_stands ahead))

-- the log ends behind the records that waited
ends : (log new : LogEnd) (bodies : List (List ℕ)) (bytes : List ℕ) → IsBatchOf bodies bytes → bytes ≢ [] → ((more : List (List ℕ)) → IsBatchOf more bytes → more ≢ [] → new ≡ behind_records log more)
    → new ≡ behind_records log bodies
ends log new bodies bytes are some end = end bodies are (λ none. some (subst (λ (l : List (List ℕ)). IsBatchOf l bytes) none are))

pub returns-then-is_empty-clause-leaves : goal.returns-then-is_empty-clause-leaves
returns-then-is_empty-clause-leaves g c = λ table s kept ahead. still_left ahead c.cuts_open.ensures c.args.self.now.sectors c.args.self.now.half

pub returns-then-is_empty-clause-serves : goal.returns-then-is_empty-clause-serves
returns-then-is_empty-clause-serves g c = λ table s kept ahead.
    let none = c.is_empty.ensures.empty.0 c.if-is_empty.true in
    let view = c.waiting.view_is in
    idle ahead none (omega (arith, c.waiting.invariant.few, ap (λ (w : Waits). w.pledged) view, ap (λ (w : Waits). length w.batch) view, ap length none))

pub returns-in_default-clause-leaves : goal.returns-in_default-clause-leaves
returns-in_default-clause-leaves g c = leaves g (goal.at.returns-in_default-clause-leaves g c).After-append_all

pub invariant_of-self-2-clause-nvram : goal.invariant_of-self-2-clause-nvram
invariant_of-self-2-clause-nvram g c =
    let f = c.args.self.now in
    let log = ends f.log c.append_all.new.self c.waiting.invariant.bodies c.waiting.inside.batch c.waiting.invariant.are (some g (goal.at.invariant_of-self-2-clause-nvram g c).After-append_all) c.in-Ok.ensures.end in
    omega (arith, c.append_all.ensures.writes.same.nvram_bytes, f.nvram, ap (λ (l : LogEnd). l.half) log)

pub invariant_of-self-2-clause-half : goal.invariant_of-self-2-clause-half
invariant_of-self-2-clause-half g c =
    let f = c.args.self.now in
    ap (λ (l : LogEnd). l.half) (ends f.log c.append_all.new.self c.waiting.invariant.bodies c.waiting.inside.batch c.waiting.invariant.are (some g (goal.at.invariant_of-self-2-clause-half g c).After-append_all) c.in-Ok.ensures.end) ∙ f.half

pub invariant_of-self-2-clause-few : goal.invariant_of-self-2-clause-few
invariant_of-self-2-clause-few g c = omega (arith, c.args.self.now.few, c.waiting.invariant.few, c.in-Ok.ensures.moved)

pub returns-clause-epoch : goal.returns-clause-epoch
returns-clause-epoch g c =
    ap (λ (l : LogEnd). l.epoch) (ends c.args.self.now.log c.append_all.new.self c.waiting.invariant.bodies c.waiting.inside.batch c.waiting.invariant.are (some g (goal.at.returns-clause-epoch g c).After-append_all) c.in-Ok.ensures.end)

pub returns-clause-runs : goal.returns-clause-runs
returns-clause-runs g c =
    ap (λ (l : LogEnd). l.is_stopped) (ends c.args.self.now.log c.append_all.new.self c.waiting.invariant.bodies c.waiting.inside.batch c.waiting.invariant.are (some g (goal.at.returns-clause-runs g c).After-append_all) c.in-Ok.ensures.end)

pub returns-clause-leaves : goal.returns-clause-leaves
returns-clause-leaves g c = leaves g (goal.at.returns-clause-leaves g c).After-append_all

pub returns-clause-serves : goal.returns-clause-serves
returns-clause-serves g c = λ table s kept ahead.
    let f = c.args.self.now in
    let log = ends f.log c.append_all.new.self c.waiting.invariant.bodies c.waiting.inside.batch c.waiting.invariant.are (some g (goal.at.returns-clause-serves g c).After-append_all) c.in-Ok.ensures.end in
    let k = system_parts {G = g.S.Station} f in
    let new = g.S.Station.meaning c.append_all.new.station in
    let before = c.args.waiting.now in
    let same : c.waiting.inside.pledged ≡ before.pledged = ap (λ (w : Waits). w.pledged) c.waiting.view_is in
    let free = within ahead f.free (free_with {G = g.S.Station} ahead.then_inodes ahead.then_files ahead.then_session f ahead.then_table kept ahead.served ∙ ap free_of (sym ahead.base)) in
    let pledged : f.pledged + before.pledged ≡ c.saturating_add-self.result =
    omega (arith, c.saturating_add-self.ensures, same, free, f.counted, few_free f.map.parts.items f.map.count, f.count, f.is_root.head.sizes.most_blocks) in
    let pledged_then : f.pledged_then + before.pledged ≡ f.pledged_then + c.waiting.inside.pledged = ap (λ (n : ℕ). f.pledged_then + n) (sym same) in
    let serves = committed ahead new c.append_all.new.self (ap (λ (l : LogEnd). l.epoch) log) c.append_all.ensures.disk c.append_all.ensures.writes.same
    (c.in-Ok.ensures.appended ahead.served.settled.root.generation ahead.served.lasts.bodies (map change_bytes ahead.waiting) (waits g (goal.at.returns-clause-serves g c).After-append_all table s kept ahead) (log_stands ahead))
    (subst (λ (l : LogEnd). IsFalse l.is_stopped) (sym log) ahead.served.goes) in
    subst (λ (p : ℕ). IsServing new (record k { log = c.append_all.new.self; pledged = p; pledged_then = f.pledged_then + c.waiting.inside.pledged }) table s) pledged
    (subst (λ (p : ℕ). IsServing new (record k { log = c.append_all.new.self; pledged = f.pledged + before.pledged; pledged_then = p }) table s) pledged_then serves)
