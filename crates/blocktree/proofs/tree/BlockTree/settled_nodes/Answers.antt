use Rattle.std.proofs.Common.{rules, arith, ℕ, ◌*◌, ◌^◌, ◌-◌, ◌<◌, ◌≤◌, subst, sym, ◌∙◌, ◌≡◌}
use Rattle.layout.specs.Trees.{fan_out}
use Rattle.blocktree.specs.Places.{IsPath}
use Rattle.blocktree.proofs.NodeLaws.{nodes_within, nodes_paths, nodes_lowest}
use Rattle.blocktree.proofs.tree.BlockTree.settled_nodes.Goals as goal

pub read_places-requires : goal.read_places-requires
read_places-requires g c =
    subst (λ (n : ℕ). n ≤ 16 * fan_out c.args.self.now.layout ^ (c.args.self.now.depth - c.args.height)) (sym c.nodes_at-count.ensures) (nodes_within c.args.self.now.layout c.args.self.now.depth c.args.self.now.count c.args.height c.requires c.args.self.now.fits.0)

pub returns-in_err-nodes-clause-damaged : goal.returns-in_err-nodes-clause-damaged
returns-in_err-nodes-clause-damaged g c = λ disk shows bad sound.
    c.in_err-nodes.ensures.damaged disk shows (search rules)
    (subst (λ (n : ℕ). (i : ℕ) → i < n → IsPath c.args.self.now.layout (g.B.Blocks.count c.args.blocks.now) disk c.args.self.now.pointers (c.args.self.now.depth - c.args.height) n i) (sym c.nodes_at-count.ensures)
    (nodes_paths c.args.self.now.layout (g.B.Blocks.count c.args.blocks.now) disk c.args.self.now.pointers c.args.self.now.depth c.args.self.now.count c.args.height c.requires sound))

pub returns-clause-sound : goal.returns-clause-sound
returns-clause-sound g c = λ disk shows lowest.
    let all : c.nodes_at-count.result ≡ c.args.self.now.count = c.nodes_at-count.ensures ∙ sym (nodes_lowest c.args.self.now.layout c.args.self.now.count c.args.height lowest) in
    let deep : c.args.self.now.depth - c.args.height ≡ c.args.self.now.depth = omega arith in
    subst (λ (d : ℕ). (i : ℕ) → i < c.args.self.now.count → IsPath c.args.self.now.layout (g.B.Blocks.count c.args.blocks.now) disk c.args.self.now.pointers d c.args.self.now.count i) deep
    (subst (λ (n : ℕ). (i : ℕ) → i < n → IsPath c.args.self.now.layout (g.B.Blocks.count c.args.blocks.now) disk c.args.self.now.pointers (c.args.self.now.depth - c.args.height) n i) all (c.in_ok-nodes.ensures.sound disk shows))
