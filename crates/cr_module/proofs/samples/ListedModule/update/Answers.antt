use Rattle.std.proofs.Common.{◌≡◌, ◌∙◌, ◌++◌, rules, ap, sym, List, Bool, true, cond, fold, map, Ok, Err}
use Rattle.cr_value.specs.declared.value.Value.{Value}
use Rattle.cr_bags.specs.Bags.{single}
use Rattle.cr_query.specs.Query.{Row}
use Rattle.cr_module.specs.Lawful.{value_at}
use Rattle.cr_module.specs.declared.module.UpdateError.TheVariants.{ReadOnly}
use Rattle.cr_module.proofs.Single.{taken}
use Rattle.cr_module.proofs.samples.ListedModule.update.Goals as goal

pub returns-in-Ok-clause-updated : goal.returns-in-Ok-clause-updated
returns-in-Ok-clause-updated c =
    let takes : c.args.self.now.takes_rows ≡ true = search rules in
    let behind : c.args.self.now.values.items ++ map (value_at 0) c.args.rows.now ≡ c.append.new.self.items = search rules in
    ap (λ (b : Bool). cond b (Ok (map single c.args.self.now.values.items ++ c.args.rows.now)) (Err ReadOnly)) takes
    ∙ ap Ok (taken c.args.self.now.columns c.args.self.now.values.items c.args.rows.now c.args.self.now.one c.requires ∙ ap (λ (vs : List Value). map single vs) behind)

pub returns-in-Ok-clause-later : goal.returns-in-Ok-clause-later
returns-in-Ok-clause-later c =
    let behind : c.args.self.now.values.items ++ map (value_at 0) c.args.rows.now ≡ c.append.new.self.items = search rules in
    ap (λ (rows : List Row). λ (lists : List (List Row)). cond c.args.self.now.takes_rows (Ok (fold (λ shown more. shown ++ more) rows lists)) (Err ReadOnly))
    (sym (taken c.args.self.now.columns c.args.self.now.values.items c.args.rows.now c.args.self.now.one c.requires ∙ ap (λ (vs : List Value). map single vs) behind))
