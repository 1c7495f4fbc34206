use Rattle.std.proofs.Common.{◌++◌, List, ℕ, sym, ap, ◌∙◌}
use Rattle.fuse.specs.Replies.{reply_text}
use Rattle.fuse.proofs.ReplyLaws.{wrote_both}
use Rattle.fuse.proofs.reply.write_bytes.Goals as goal

pub returns-clause-ok : goal.returns-clause-ok
unfolding reply_text
returns-clause-ok c =
    let bytes = c.args.bytes.now in
    let old = c.args.out.now.items in
    let head = c.head_bytes.result in
    wrote_both c.extend_from_slice-2.result old c.extend_from_slice.new.self.items c.extend_from_slice-2.new.self.items head bytes (reply_text c.args.unique bytes)
    (c.in_ok-extend_from_slice.ensures.items ∙ ap (λ (l : List ℕ). l ++ head) c.reserve.ensures.items)
    c.extend_from_slice-2.ensures.items
    (ap (λ (l : List ℕ). l ++ bytes) (sym c.head_bytes.ensures))
