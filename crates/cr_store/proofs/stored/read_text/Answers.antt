use Rattle.std.proofs.Common.{◌∙◌, sym, ap, subst}
use Rattle.std.specs.Str.{IsUtf8}
use Rattle.std.proofs.lemmas.Str.{IsUtf8-string_bytes}
use Rattle.sqlite.specs.declared.types.Value.TheVariants.{Text}
use Rattle.sqlite_value.specs.Order.{bytes}
use Rattle.cr_store.proofs.stored.read_text.Goals as goal

pub returns-in-Ok : goal.returns-in-Ok
returns-in-Ok c =
    let is = c.in-Ok.ensures.ok in
    let same = sym (ap bytes is) in
    (c.new.ensures ∙ same, (is ∙ ap Text same, subst IsUtf8 same (IsUtf8-string_bytes c.in-Ok.text)))
