use Rattle.std.proofs.Common.{◌≡◌, Option, sym, subst, ap, ◌∙◌}
use Rattle.std.specs.Option.{option_copied}
use Rattle.std.specs.Prelude.{IfOk}
use Rattle.cr_heard.specs.declared.touched.Touched.{Touched}
use Rattle.cr_heard.specs.Touched.{touched_there, touched_named}
use Rattle.cr_heard.proofs.keys.touched_named.Goals as goal

pub returns-in-Some : goal.returns-in-Some
unfolding touched_named
returns-in-Some c =
    let there = sym (ap option_copied c.in-Some.is) ∙ c.table_of.ensures in
    subst (λ (x : Option Touched). IfOk c.touched_of.result (λ o. o ≡ x)) (ap (touched_there c.args.changes.now) there) c.touched_of.ensures

pub returns-in-None : goal.returns-in-None
unfolding touched_named
returns-in-None c = ap (touched_there c.args.changes.now) (sym (ap option_copied c.in-None.is) ∙ c.table_of.ensures)
