use Rattle.std.proofs.Common.{◌≡◌, length, ap, arith}
use Rattle.layout.proofs.RecordLengths.{few_modified_bytes, few_permission_bytes, fields-change_attributes, fields-link, fields-remove_name, fields-rename, fields-set_file, fields-truncate}
use Rattle.calls.proofs.changed.OwnedChange.edit.Goals as goal

pub returns-in-Link-clause-short : goal.returns-in-Link-clause-short
returns-in-Link-clause-short c = λ has_attributes.
    let name = c.in-Link.name in
    let same : length c.deref.result.now ≡ length name.bytes.items = ap length c.deref.ensures.value in
    let short = name.named.short in
    let long = fields-link has_attributes c.in-Link.number c.in-Link.parent c.deref.result.now in
    omega (arith, same, short, long)

pub returns-in-RemoveName-clause-short : goal.returns-in-RemoveName-clause-short
returns-in-RemoveName-clause-short c = λ has_attributes.
    let name = c.in-RemoveName.name in
    let same : length c.deref-in-RemoveName.result.now ≡ length name.bytes.items = ap length c.deref-in-RemoveName.ensures.value in
    let short = name.named.short in
    let long = fields-remove_name has_attributes c.in-RemoveName.parent c.deref-in-RemoveName.result.now in
    omega (arith, same, short, long)

pub returns-in-Rename-clause-short : goal.returns-in-Rename-clause-short
returns-in-Rename-clause-short c = λ has_attributes.
    let name = c.in-Rename.name in
    let new_name = c.in-Rename.new_name in
    let same : length c.deref-in-Rename.result.now ≡ length name.bytes.items = ap length c.deref-in-Rename.ensures.value in
    let new_same : length c.deref-in-Rename-2.result.now ≡ length new_name.bytes.items = ap length c.deref-in-Rename-2.ensures.value in
    let short = name.named.short in
    let new_short = new_name.named.short in
    let long = fields-rename has_attributes c.in-Rename.parent c.deref-in-Rename.result.now c.in-Rename.new_parent c.deref-in-Rename-2.result.now in
    omega (arith, same, new_same, short, new_short, long)

pub returns-in-ChangeAttributes-clause-short : goal.returns-in-ChangeAttributes-clause-short
returns-in-ChangeAttributes-clause-short c = λ has_attributes.
    let permissions = c.in-ChangeAttributes.permissions in
    let modified = c.in-ChangeAttributes.modified in
    let few = few_permission_bytes has_attributes permissions in
    let few_more = few_modified_bytes has_attributes modified in
    let long = fields-change_attributes has_attributes c.in-ChangeAttributes.number permissions modified in
    omega (arith, few, few_more, long)

pub returns-in-Truncate-clause-short : goal.returns-in-Truncate-clause-short
returns-in-Truncate-clause-short c = λ has_attributes.
    let long = fields-truncate has_attributes c.in-Truncate.number c.in-Truncate.size in omega (arith, long)

pub returns-in-SetFile-clause-short : goal.returns-in-SetFile-clause-short
returns-in-SetFile-clause-short c = λ has_attributes.
    let long = fields-set_file has_attributes c.in-SetFile.number c.in-SetFile.mode c.in-SetFile.size in omega (arith, long)
