use Rattle.std.proofs.Common.{Some, Err, sym, ap, ◌∙◌}
use Rattle.cr_sought.proofs.Packs.{packs, none_of, none_over, key_is}
use Rattle.cr_sought.proofs.key.key_from.Goals as goal

pub returns-then-not-can_pack : goal.returns-then-not-can_pack
returns-then-not-can_pack c = none_of c.args.values.now (sym c.can_pack.ensures ∙ c.if-not-can_pack.true)

pub pack-requires : goal.pack-requires
pack-requires c = packs c.args.values.now c.requires (sym c.can_pack.ensures ∙ c.if-not-can_pack.false)

pub returns-in-Ok : goal.returns-in-Ok
returns-in-Ok c =
    ap Some c.new.ensures
    ∙ key_is c.args.values.now c.in-Ok.bytes.items (sym c.can_pack.ensures ∙ c.if-not-can_pack.false) c.in-Ok.ensures.ok

pub returns-in-Err-TooBig : goal.returns-in-Err-TooBig
returns-in-Err-TooBig c = none_over c.args.values.now (c.in-Err-TooBig.ensures.too_big.0 (ap Err c.in-Err-TooBig.field-0-is))
