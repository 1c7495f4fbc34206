use Rattle.std.proofs.Common.{Some, None, sym, ap, ◌∙◌, arith}
use Rattle.layout.proofs.Formats.{some_is}
use Rattle.fuse.specs.Operation.{operation_of}
use Rattle.fuse.specs.declared.head.Head.{Head}
use Rattle.fuse.proofs.RequestLaws.{request_found, request_head, same_head, same_request}
use Rattle.fuse.proofs.request.read_request.Goals as goal

pub returns-in_default-clause-only : goal.returns-in_default-clause-only
returns-in_default-clause-only c = λ r is.
    let none = c.in_default.ensures ∙ sym (request_head c.args.bytes.now r is) in
    cc

pub returns-then-head-bytes-clause-only : goal.returns-then-head-bytes-clause-only
returns-then-head-bytes-clause-only c = λ r is.
    let same = same_head c.args.bytes.now c.in-Some.head c.in-Some.field-0-1 c.in-Some.body.now r c.in-Some.ensures is in
    c.if-head-bytes.true (ap (λ (h : Head). h.length) same.head_is ∙ is.length_is)

pub returns-in_default-read_body-clause-only : goal.returns-in_default-read_body-clause-only
returns-in_default-read_body-clause-only c = λ r is.
    let none = (same_request c.args.bytes.now c.in-Some.head c.in-Some.field-0-1 c.in-Some.body.now None r c.in-Some.ensures c.in_default-read_body.ensures is).1 in
    cc

pub returns-clause-found : goal.returns-clause-found
returns-clause-found c =
    request_found c.args.bytes.now c.in-Some.head c.in-Some.field-0-1 c.in-Some.body.now (operation_of c.in-Some-read_body.operation)
    (λ i. omega (arith, c.type_inv.bytes i)) c.in-Some.ensures c.if-head-bytes.false (sym c.in-Some-read_body.ensures)

pub returns-clause-only : goal.returns-clause-only
returns-clause-only c = λ r is.
    let operation = operation_of c.in-Some-read_body.operation in
    let same = same_request c.args.bytes.now c.in-Some.head c.in-Some.field-0-1 c.in-Some.body.now (Some operation) r c.in-Some.ensures c.in-Some-read_body.ensures is in
    let is = some_is operation r.operation same.1 in
    λ i. record { head = same.0 i; operation = is i }

pub returns-clause-head : goal.returns-clause-head
returns-clause-head c = (c.in-Some.field-0-1, c.in-Some.body.now, sym c.in-Some.ensures)
