use Rattle.std.proofs.Common.{rules, ◌≡◌, ◌<◌, ◌∙◌, ℕ, Bool, List, [], true, false, refl, inl, inr, subst, arith}
use Rattle.cr_tree.specs.declared.statement.Statement.{Statement}
use Rattle.cr_meaning.specs.View.{Ordered}
use Rattle.cr_world.specs.Language.{Language}
use Rattle.cr_world.specs.World.{Closures}
use Rattle.cr_script.specs.Speaking.{closures, spoken}
use Rattle.cr_shell.specs.declared.serving.Next.TheVariants as next
use Rattle.cr_shell.specs.Serving.{IsKept, Takes, Ends}
use Rattle.cr_served.specs.Running.{watch}
use Rattle.cr_shell.specs.Running.{RanAs}
use Rattle.cr_shell.proofs.RanLaws.{RanLaws, laws_as}
use Rattle.cr_shell.proofs.ServeLemmas.{going_start, goes, serves_quit, serves_read, serves_write, serves_end}
use Rattle.cr_shell.proofs.BytesLemmas.{consumes_none}
use Rattle.cr_shell.proofs.serving.serve.Goals as goal

pub loop-init : goal.loop-init
loop-init g c =
    let names : (List ℕ → Bool) → Type 0 = λ has. has ≡ g.F.Functions.names_function c.args.functions.now in
    let language : (List ℕ → Bool) → Language Statement Ordered = λ has. spoken (g.F.Functions.function_of c.args.functions.now) (g.F.Functions.scalar c.args.functions.now) (g.F.Functions.step c.args.functions.now) (g.F.Functions.finish c.args.functions.now) (g.F.Functions.order_of c.args.functions.now) (g.F.Functions.orders_total c.args.functions.now) has in
    let k : Closures = closures (g.G.Guarding.allows c.args.guard.now) (g.G.Guarding.refuses c.args.guard.now) in
    let laws : RanLaws (RanAs g.T.Served.ran names language k) = laws_as g.T.Served.ran g.met.T.Served.ran_none g.met.T.Served.ran_more names language k in
    record {
      so_far = going_start g.R.Read.remaining g.W.Write.contents (RanAs g.T.Served.ran names language k) laws c.args.reader.now c.args.writer.now c.args.served.now (watch g.G.Guarding.rules g.G.Guarding.noted g.G.Guarding.noting c.args.guard.now) c.new-input.result.gathered c.new-input.result.line c.new-input.ensures.gathered c.new-input.ensures.line;
      reader = c.requires.reader;
      writer = c.requires.writer;
      closures = refl;
      noting = refl;
      faithful = c.requires.guard;
    }

pub returns-in-Ok-None-clause-serves : goal.returns-in-Ok-None-clause-serves
returns-in-Ok-None-clause-serves g c =
    let names : (List ℕ → Bool) → Type 0 = λ has. has ≡ g.F.Functions.names_function c.args.functions.now in
    let language : (List ℕ → Bool) → Language Statement Ordered = λ has. spoken (g.F.Functions.function_of c.args.functions.now) (g.F.Functions.scalar c.args.functions.now) (g.F.Functions.step c.args.functions.now) (g.F.Functions.finish c.args.functions.now) (g.F.Functions.order_of c.args.functions.now) (g.F.Functions.orders_total c.args.functions.now) has in
    let k : Closures = closures (g.G.Guarding.allows c.args.guard.now) (g.G.Guarding.refuses c.args.guard.now) in
    let laws : RanLaws (RanAs g.T.Served.ran names language k) = laws_as g.T.Served.ran g.met.T.Served.ran_none g.met.T.Served.ran_more names language k in
    let few : c.loop.counter < 16000000 = omega arith in
    let read_ok : c.read_byte.new.self.1 ≡ false = search rules in
    serves_end g.R.Read.remaining g.W.Write.contents (RanAs g.T.Served.ran names language k) laws c.hear_last.result c.args.reader.now c.loop.reader c.read_byte.new.self c.args.writer.now c.loop.writer c.hear_last.new.writer c.args.served.now c.loop.served c.hear_last.new.served (watch g.G.Guarding.rules g.G.Guarding.noted g.G.Guarding.noting c.args.guard.now) (watch g.G.Guarding.rules g.G.Guarding.noted g.G.Guarding.noting c.loop.guard) (watch g.G.Guarding.rules g.G.Guarding.noted g.G.Guarding.noting c.hear_last.new.guard) c.loop.input.gathered c.hear_last.new.input.gathered c.loop.input.line c.loop.counter c.loop.invariant.so_far (rw c.in-Ok-None.field-0-is at c.in-Ok-None.ensures.byte) c.loop.invariant.writer few read_ok
    (subst (λ (x : Closures). (b : List ℕ) → IsKept c.loop.input.line b → Ends g.W.Write.contents (RanAs g.T.Served.ran names language x) c.loop.writer c.hear_last.new.writer (c.loop.served, (watch g.G.Guarding.rules g.G.Guarding.noted g.G.Guarding.noting c.loop.guard), c.loop.input.gathered) (c.hear_last.new.served, (watch g.G.Guarding.rules g.G.Guarding.noted g.G.Guarding.noting c.hear_last.new.guard), c.hear_last.new.input.gathered) b c.hear_last.result) c.loop.invariant.closures c.hear_last.ensures.ends)

pub returns-in-Err-clause-serves : goal.returns-in-Err-clause-serves
returns-in-Err-clause-serves g c =
    let names : (List ℕ → Bool) → Type 0 = λ has. has ≡ g.F.Functions.names_function c.args.functions.now in
    let language : (List ℕ → Bool) → Language Statement Ordered = λ has. spoken (g.F.Functions.function_of c.args.functions.now) (g.F.Functions.scalar c.args.functions.now) (g.F.Functions.step c.args.functions.now) (g.F.Functions.finish c.args.functions.now) (g.F.Functions.order_of c.args.functions.now) (g.F.Functions.orders_total c.args.functions.now) has in
    let k : Closures = closures (g.G.Guarding.allows c.args.guard.now) (g.G.Guarding.refuses c.args.guard.now) in
    let laws : RanLaws (RanAs g.T.Served.ran names language k) = laws_as g.T.Served.ran g.met.T.Served.ran_none g.met.T.Served.ran_more names language k in
    let failed : c.read_byte.new.self.1 ≡ true = search rules in
    serves_read g.R.Read.remaining g.W.Write.contents (RanAs g.T.Served.ran names language k) laws c.args.reader.now c.loop.reader c.read_byte.new.self c.args.writer.now c.loop.writer c.args.served.now c.loop.served (watch g.G.Guarding.rules g.G.Guarding.noted g.G.Guarding.noting c.args.guard.now) (watch g.G.Guarding.rules g.G.Guarding.noted g.G.Guarding.noting c.loop.guard) c.loop.input.gathered c.loop.input.line c.loop.counter c.loop.invariant.so_far c.in-Err.ensures.byte c.loop.invariant.writer (inl failed)

pub returns-clause-serves : goal.returns-clause-serves
returns-clause-serves g c =
    let names : (List ℕ → Bool) → Type 0 = λ has. has ≡ g.F.Functions.names_function c.args.functions.now in
    let language : (List ℕ → Bool) → Language Statement Ordered = λ has. spoken (g.F.Functions.function_of c.args.functions.now) (g.F.Functions.scalar c.args.functions.now) (g.F.Functions.step c.args.functions.now) (g.F.Functions.finish c.args.functions.now) (g.F.Functions.order_of c.args.functions.now) (g.F.Functions.orders_total c.args.functions.now) has in
    let k : Closures = closures (g.G.Guarding.allows c.args.guard.now) (g.G.Guarding.refuses c.args.guard.now) in
    let laws : RanLaws (RanAs g.T.Served.ran names language k) = laws_as g.T.Served.ran g.met.T.Served.ran_none g.met.T.Served.ran_more names language k in
    let limit : c.loop.counter ≡ 16000000 = omega arith in
    serves_read g.R.Read.remaining g.W.Write.contents (RanAs g.T.Served.ran names language k) laws c.args.reader.now c.loop.reader c.loop.reader c.args.writer.now c.loop.writer c.args.served.now c.loop.served (watch g.G.Guarding.rules g.G.Guarding.noted g.G.Guarding.noting c.args.guard.now) (watch g.G.Guarding.rules g.G.Guarding.noted g.G.Guarding.noting c.loop.guard) c.loop.input.gathered c.loop.input.line c.loop.counter c.loop.invariant.so_far (consumes_none (g.R.Read.remaining c.loop.reader.0)) c.loop.invariant.writer (inr limit)

pub returns-in-Quits-clause-serves : goal.returns-in-Quits-clause-serves
returns-in-Quits-clause-serves g c =
    let names : (List ℕ → Bool) → Type 0 = λ has. has ≡ g.F.Functions.names_function c.args.functions.now in
    let language : (List ℕ → Bool) → Language Statement Ordered = λ has. spoken (g.F.Functions.function_of c.args.functions.now) (g.F.Functions.scalar c.args.functions.now) (g.F.Functions.step c.args.functions.now) (g.F.Functions.finish c.args.functions.now) (g.F.Functions.order_of c.args.functions.now) (g.F.Functions.orders_total c.args.functions.now) has in
    let k : Closures = closures (g.G.Guarding.allows c.args.guard.now) (g.G.Guarding.refuses c.args.guard.now) in
    let laws : RanLaws (RanAs g.T.Served.ran names language k) = laws_as g.T.Served.ran g.met.T.Served.ran_none g.met.T.Served.ran_more names language k in
    let few : c.loop.counter < 16000000 = omega arith in
    let read_ok : c.read_byte.new.self.1 ≡ false = search rules in
    serves_quit g.R.Read.remaining g.W.Write.contents (RanAs g.T.Served.ran names language k) laws c.args.reader.now c.loop.reader c.read_byte.new.self c.args.writer.now c.loop.writer c.take_byte.new.writer c.args.served.now c.loop.served c.take_byte.new.served (watch g.G.Guarding.rules g.G.Guarding.noted g.G.Guarding.noting c.args.guard.now) (watch g.G.Guarding.rules g.G.Guarding.noted g.G.Guarding.noting c.loop.guard) (watch g.G.Guarding.rules g.G.Guarding.noted g.G.Guarding.noting c.take_byte.new.guard) c.loop.input.gathered c.take_byte.new.input.gathered c.loop.input.line c.take_byte.new.input.line c.loop.counter c.loop.invariant.so_far c.in-Ok-Some.byte (rw c.in-Ok-Some.field-0-is at c.in-Ok-Some.ensures.byte) c.loop.invariant.writer few read_ok
    (subst (λ (x : Closures). Takes g.W.Write.contents (RanAs g.T.Served.ran names language x) c.loop.writer c.take_byte.new.writer (c.loop.served, (watch g.G.Guarding.rules g.G.Guarding.noted g.G.Guarding.noting c.loop.guard), c.loop.input.gathered) (c.take_byte.new.served, (watch g.G.Guarding.rules g.G.Guarding.noted g.G.Guarding.noting c.take_byte.new.guard), c.take_byte.new.input.gathered) c.loop.input.line c.take_byte.new.input.line c.in-Ok-Some.byte next.Quits) c.loop.invariant.closures c.in-Quits.ensures.takes)

pub returns-in-Fails-clause-serves : goal.returns-in-Fails-clause-serves
returns-in-Fails-clause-serves g c =
    let names : (List ℕ → Bool) → Type 0 = λ has. has ≡ g.F.Functions.names_function c.args.functions.now in
    let language : (List ℕ → Bool) → Language Statement Ordered = λ has. spoken (g.F.Functions.function_of c.args.functions.now) (g.F.Functions.scalar c.args.functions.now) (g.F.Functions.step c.args.functions.now) (g.F.Functions.finish c.args.functions.now) (g.F.Functions.order_of c.args.functions.now) (g.F.Functions.orders_total c.args.functions.now) has in
    let k : Closures = closures (g.G.Guarding.allows c.args.guard.now) (g.G.Guarding.refuses c.args.guard.now) in
    let laws : RanLaws (RanAs g.T.Served.ran names language k) = laws_as g.T.Served.ran g.met.T.Served.ran_none g.met.T.Served.ran_more names language k in
    let few : c.loop.counter < 16000000 = omega arith in
    let read_ok : c.read_byte.new.self.1 ≡ false = search rules in
    serves_write g.R.Read.remaining g.W.Write.contents (RanAs g.T.Served.ran names language k) laws c.args.reader.now c.loop.reader c.read_byte.new.self c.args.writer.now c.loop.writer c.take_byte.new.writer c.args.served.now c.loop.served c.take_byte.new.served (watch g.G.Guarding.rules g.G.Guarding.noted g.G.Guarding.noting c.args.guard.now) (watch g.G.Guarding.rules g.G.Guarding.noted g.G.Guarding.noting c.loop.guard) (watch g.G.Guarding.rules g.G.Guarding.noted g.G.Guarding.noting c.take_byte.new.guard) c.loop.input.gathered c.take_byte.new.input.gathered c.loop.input.line c.take_byte.new.input.line c.loop.counter c.loop.invariant.so_far c.in-Ok-Some.byte (rw c.in-Ok-Some.field-0-is at c.in-Ok-Some.ensures.byte) c.loop.invariant.writer few read_ok
    (subst (λ (x : Closures). Takes g.W.Write.contents (RanAs g.T.Served.ran names language x) c.loop.writer c.take_byte.new.writer (c.loop.served, (watch g.G.Guarding.rules g.G.Guarding.noted g.G.Guarding.noting c.loop.guard), c.loop.input.gathered) (c.take_byte.new.served, (watch g.G.Guarding.rules g.G.Guarding.noted g.G.Guarding.noting c.take_byte.new.guard), c.take_byte.new.input.gathered) c.loop.input.line c.take_byte.new.input.line c.in-Ok-Some.byte next.Fails) c.loop.invariant.closures c.in-Fails.ensures.takes)

pub loop-preserved : goal.loop-preserved
loop-preserved g c =
    let names : (List ℕ → Bool) → Type 0 = λ has. has ≡ g.F.Functions.names_function c.args.functions.now in
    let language : (List ℕ → Bool) → Language Statement Ordered = λ has. spoken (g.F.Functions.function_of c.args.functions.now) (g.F.Functions.scalar c.args.functions.now) (g.F.Functions.step c.args.functions.now) (g.F.Functions.finish c.args.functions.now) (g.F.Functions.order_of c.args.functions.now) (g.F.Functions.orders_total c.args.functions.now) has in
    let k : Closures = closures (g.G.Guarding.allows c.args.guard.now) (g.G.Guarding.refuses c.args.guard.now) in
    let laws : RanLaws (RanAs g.T.Served.ran names language k) = laws_as g.T.Served.ran g.met.T.Served.ran_none g.met.T.Served.ran_more names language k in
    let t = goes g.R.Read.remaining g.W.Write.contents (RanAs g.T.Served.ran names language k) laws c.args.reader.now c.loop.reader c.read_byte.new.self c.args.writer.now c.loop.writer c.take_byte.new.writer (c.args.served.now, (watch g.G.Guarding.rules g.G.Guarding.noted g.G.Guarding.noting c.args.guard.now), []) (c.loop.served, (watch g.G.Guarding.rules g.G.Guarding.noted g.G.Guarding.noting c.loop.guard), c.loop.input.gathered) (c.take_byte.new.served, (watch g.G.Guarding.rules g.G.Guarding.noted g.G.Guarding.noting c.take_byte.new.guard), c.take_byte.new.input.gathered) c.loop.input.line c.take_byte.new.input.line c.loop.counter c.in-Ok-Some.byte c.loop.invariant.so_far (rw c.in-Ok-Some.field-0-is at c.in-Ok-Some.ensures.byte) c.loop.invariant.writer
    (subst (λ (x : Closures). Takes g.W.Write.contents (RanAs g.T.Served.ran names language x) c.loop.writer c.take_byte.new.writer (c.loop.served, (watch g.G.Guarding.rules g.G.Guarding.noted g.G.Guarding.noting c.loop.guard), c.loop.input.gathered) (c.take_byte.new.served, (watch g.G.Guarding.rules g.G.Guarding.noted g.G.Guarding.noting c.take_byte.new.guard), c.take_byte.new.input.gathered) c.loop.input.line c.take_byte.new.input.line c.in-Ok-Some.byte next.Goes) c.loop.invariant.closures c.in-Goes.ensures.takes) in
    record {
      so_far = t.0;
      reader = search rules;
      writer = t.1;
      closures = c.take_byte.ensures.closures ∙ c.loop.invariant.closures;
      noting = c.take_byte.ensures.noting ∙ c.loop.invariant.noting;
      faithful = c.take_byte.ensures.faithful;
    }
