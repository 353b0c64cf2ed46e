use Rattle.std.proofs.Common.{◌≡◌, ℤ, List, [], rules, sym, subst, w64, to_z-of_z}
use Rattle.std.proofs.lemmas.Result.{IfOk-weaker}
use Rattle.cr_bags.specs.Bags.{SameBag}
use Rattle.cr_query.specs.Query.{Row}
use Rattle.cr_module.specs.Lawful.{IsFiltered}
use Rattle.cr_module.proofs.Readings.{all_read}
use Rattle.cr_module.proofs.reading.rows_of.Goals as goal

pub returns : goal.returns
returns g c =
    let m = g.M.Module in
    let whole : List Row = m.left c.args.listed.now c.in_ok-cursor.cursor in
    let best = m.best c.args.listed.now in
    let rows_are : List Row = m.rows_of c.args.listed.now in
    let index = c.in_ok-choice.choice.index in
    let filtered : IsFiltered best rows_are index [] whole =
    subst (λ (z : ℤ). IsFiltered best rows_are z [] whole) (to_z-of_z {w = w64} {z = index} (search rules)) c.in_ok-cursor.ensures.filtered in
    let whole_is : SameBag whole rows_are =
    all_read best rows_are whole c.in_ok-choice.choice c.in_ok-choice.ensures.best c.in_ok-choice.ensures.usable filtered in
    IfOk-weaker c.read_all.result (λ rows. rows ≡ whole) (λ rows. SameBag rows rows_are)
    (λ rows e. subst (λ (rs : List Row). SameBag rs rows_are) (sym e) whole_is) c.read_all.ensures
