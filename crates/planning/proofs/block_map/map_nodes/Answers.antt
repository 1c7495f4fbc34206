use Rattle.std.proofs.Common.{sym, subst, ◌∙◌, rules}
use Rattle.placement.specs.Files.{IsBasedOn}
use Rattle.planning.proofs.OwnLaws.{loaded_based}
use Rattle.planning.proofs.block_map.map_nodes.Goals as goal

pub returns-in_err-nodes-clause-damaged : goal.returns-in_err-nodes-clause-damaged
returns-in_err-nodes-clause-damaged g c = λ s disk shows sound same bad.
    c.in_err-nodes.ensures.damaged s disk c.args.settled shows
    (subst (IsBasedOn c.args.settled) (sym c.tree.ensures) (loaded_based s disk c.args.settled c.in_ok-file.file.tree sound c.in_ok-file.ensures.settled)) sound same (search rules)

pub returns-clause-within : goal.returns-clause-within
returns-clause-within g c = c.in_ok-row.ensures.within (g.B.Blocks.count c.args.blocks.now) c.in_ok-nodes.ensures.nodes.within

pub returns-clause-lowest : goal.returns-clause-lowest
returns-clause-lowest g c = λ s disk shows sound k lt.
    let known = c.in_ok-nodes.ensures.settled s disk c.args.settled shows
    (subst (IsBasedOn c.args.settled) (sym c.tree.ensures) (loaded_based s disk c.args.settled c.in_ok-file.file.tree sound c.in_ok-file.ensures.settled)) sound in
    c.in_ok-row.ensures.blocks k lt ∙ sym (known.nodes.places 0 k)

pub returns-clause-over : goal.returns-clause-over
returns-clause-over g c = λ s disk shows sound more.
    let known = c.in_ok-nodes.ensures.settled s disk c.args.settled shows
    (subst (IsBasedOn c.args.settled) (sym c.tree.ensures) (loaded_based s disk c.args.settled c.in_ok-file.file.tree sound c.in_ok-file.ensures.settled)) sound in
    c.in_ok-row.ensures.over more ∙ sym (known.nodes.places 1 0)
