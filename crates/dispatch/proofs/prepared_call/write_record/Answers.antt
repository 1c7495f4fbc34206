use Rattle.std.proofs.Common.{arith}
use Rattle.dispatch.proofs.prepared_call.write_record.Goals as goal

pub returns-clause-is : goal.returns-clause-is
returns-clause-is c = λ has_attributes time. record {
  time = time;
  limits = (c.requires.some, c.requires.most);
  fields = ((omega arith, (omega arith, omega (arith, c.requires.most))), λ i. omega (arith, c.type_inv.bytes i));
  attributes = tt;
}
