-- The head of a request.
use Rattle.std.specs.Prelude.{ℕ}
use Rattle.layout.specs.Format.{Format, num, ◌▸◌}
use Rattle.fuse.specs.declared.head.Head.{Head}

-- length, opcode, the request's own number, node, user, group, process, and four bytes more
abbrev pub head : Format (ℕ × (ℕ × (ℕ × (ℕ × (ℕ × (ℕ × (ℕ × ℕ)))))))
head = num 4 ▸ num 4 ▸ num 8 ▸ num 8 ▸ num 4 ▸ num 4 ▸ num 4 ▸ num 4

-- the fields of a head with these four bytes more
abbrev pub fields_of : Head → ℕ → ℕ × (ℕ × (ℕ × (ℕ × (ℕ × (ℕ × (ℕ × ℕ))))))
fields_of h extra = (h.length, (h.opcode, (h.unique, (h.node, (h.uid, (h.gid, (h.pid, extra)))))))
