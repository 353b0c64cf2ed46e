use Rattle.std.proofs.Common.{◌≡◌, ◌∙◌, ℕ, ◌<◌, cond, List, [], Option, ap, arith, rules, subst, sym}
use Rattle.std.specs.Prelude.{filter}
use Rattle.std.specs.Option.{is_none, option_copied}
use Rattle.cr_lattice.specs.declared.change.Change.{Change}
use Rattle.cr_lattice.specs.Keep.{join, keep}
use Rattle.cr_cells.specs.Holding.{Holding, kept_of}
use Rattle.cr_cells.specs.Pages.{above}
use Rattle.cr_replica.specs.Snapshots.{IsKeptPage}
use Rattle.cr_scalar.specs.Host.{Host, host}
use Rattle.cr_query.specs.Query.{Row}
use Rattle.cr_touched.specs.Parts.{part}
use Rattle.cr_module.specs.Lawful.{AreWide}
use Rattle.cr_pushdown.specs.Passing.{passes, passing}
use Rattle.cr_pushdown.specs.Scan.{is_of}
use Rattle.cr_pushdown.proofs.Pages.{ends_above, left_behind, of_next, page_joined, page_kept, page_read}
use Rattle.cr_pushdown.proofs.Wide.{passing_wide}
use Rattle.cr_pushdown.proofs.scan.Scan.next_page.Goals as goal

pub returns-clause-reads : goal.returns-clause-reads
returns-clause-reads g c clean =
    let by : Host = host (g.F.Functions.function_of c.args.functions.now) (g.F.Functions.scalar c.args.functions.now) (g.F.Functions.step c.args.functions.now) (g.F.Functions.finish c.args.functions.now) (g.F.Functions.order_of c.args.functions.now) in
    let h = g.C.Cells.holding c.args.replica.now in
    let def = c.args.self.now.def.now in
    let of : List Change → List Row = passing by c.args.params.now c.args.terms.now def in
    let after = c.args.self.now.after in
    let more = c.args.self.now.later.now in
    let stands = c.requires.stands in
    let read = c.in-Ok.ensures.reads clean in
    let whole = subst (λ (x : Holding). keep (kept_of x) ≡ kept_of x) read.same (c.in-Ok.ensures.sound clean).kept in
    let page =
    subst (λ (a : Option (List ℕ)). IsKeptPage h def.name a 64 c.in-Ok.page) c.lent.ensures
    (subst (λ (name : List ℕ). IsKeptPage h name (option_copied c.lent.result) 64 c.in-Ok.page) c.as_str.ensures.value read.answers) in
    let bound = c.in-Ok.page.bound in
    let kept = c.in-Ok.page.kept.items in
    let once = page_kept def after bound (kept_of h) kept whole page.kept in
    let is = page_joined def after bound (kept_of h) more kept c.split.result.0.now c.in_ok-kept.kept.items stands.of stands.left page.kept c.split.ensures.front (c.in_ok-kept.ensures once) in
    let some : 0 < 64 = omega arith in
    let last : c.is_none-self.result ≡ is_none bound = search rules in
    let rows = c.in_ok-rows.ensures ∙ ap (filter (passes by c.args.params.now c.args.terms.now)) c.in_ok-shown.ensures ∙ ap of (c.deref.ensures.value ∙ is) in
    let ends = ends_above def after bound 64 (kept_of h) kept some page.kept page.keys in
    record {
      same = read.same;
      answers = (
        page_read by c.args.params.now c.args.terms.now def (kept_of h) more after bound c.split.result.1.now c.is_none-self.result c.in_ok-rows.rows.items ends c.split.ensures.back last rows
            ∙ sym (ap (λ b. cond b [] (of (part def.name (above after) (join (kept_of h) more)))) c.requires.left),
        (last, ends),
      );
    }

pub returns-clause-stands : goal.returns-clause-stands
returns-clause-stands g c =
    let def = c.args.self.now.def.now in
    let bound = c.in-Ok.page.bound in
    let later = c.args.self.now.later.now in
    let is = c.split.ensures.back in
    record {
      sorted = c.split.ensures.sorted;
      of = ap (filter (is_of def)) is ∙ of_next def bound later c.requires.stands.of ∙ sym is;
      left = ap (filter (λ d. above bound d.pk)) is ∙ left_behind bound later ∙ sym is;
    }

pub returns-clause-wide : goal.returns-clause-wide
returns-clause-wide g c =
    let by : Host = host (g.F.Functions.function_of c.args.functions.now) (g.F.Functions.scalar c.args.functions.now) (g.F.Functions.step c.args.functions.now) (g.F.Functions.finish c.args.functions.now) (g.F.Functions.order_of c.args.functions.now) in
    let def = c.args.self.now.def.now in
    let rows = c.in_ok-rows.ensures ∙ ap (filter (passes by c.args.params.now c.args.terms.now)) c.in_ok-shown.ensures in
    subst (AreWide def.columns) (sym rows) (passing_wide by c.args.params.now c.args.terms.now def c.deref.result.now)
