use Rattle.std.proofs.Common.{ap, sym, ◌∙◌}
use Rattle.std.proofs.lemmas.Bool.{false≢true}
use Rattle.system.specs.Waits.{Waits}
use Rattle.mount.proofs.CommitLemmas.{commits_failed, commits_none, commits_not, commits_so}
use Rattle.mount.proofs.waiting.Waiting.commit.Goals as goal

pub returns-then-self : goal.returns-then-self
returns-then-self g c = commits_failed {G = g.S.Station} c.args.self.now c.if-self.true (c.args.self.now.none c.if-self.true)

pub returns-then-is_empty : goal.returns-then-is_empty
returns-then-is_empty g c =
    let laws = c.kept_states_open.ensures in
    commits_none {G = g.S.Station} c.args.self.now c.if-self.false (c.is_empty.ensures.none c.if-is_empty.true) laws.ends laws.begins (λ table s kept here. laws.opens _ table s kept here)

pub returns-in-Err : goal.returns-in-Err
returns-in-Err g c =
    commits_not {G = g.S.Station} c.args.self.now c.log_all.new.self c.if-self.false (λ none. false≢true (sym c.if-is_empty.false ∙ c.is_empty.ensures.empty.1 (ap (λ (w : Waits). w.batch) none))) c.in-Err.errno c.in-Err.ensures

pub returns : goal.returns
returns g c =
    commits_so {G = g.S.Station} c.args.self.now c.log_all.new.self _ c.if-self.false _ c.write_slices-written.result c.in_default.ensures c.write_slices-written.ensures c.log_all.ensures.emptied
    (λ none. false≢true (sym c.if-is_empty.false ∙ c.is_empty.ensures.empty.1 (ap (λ (w : Waits). w.batch) none)))
    (λ s here. c.served_states_open.ensures s.tree.descriptors s here) c.kept_states_open-2.ensures.begins
