-- To be believed. Demand 3 of the exported calls, by their contracts alone: calls by lists, `strided_raw_scatter_i32` and `strided_raw_gather_i32`, and by stored jobs,
-- `strided_scatter_i32` and `strided_gather_i32`, in any mixture. Assumes nothing.
use Rattle.std.specs.Prelude.{◌≡◌, Bool, true, cond, List, ℕ, length, ℤ, pos}
use Rattle.std.proofs.Common.{ap, ◌∙◌}
use Rattle.indexing.specs.Coordinates.{View}
use Rattle.indexing.specs.Gather.{Gather}
use Rattle.indexing.specs.Scatter.{Scatter}
use Rattle.layout.specs.Answers.{is_done}
use Rattle.checks.proofs.Made.{or-done}
use Rattle.calls.specs.Calls.{GatherCall, ScatterCall, Gathers, Scatters}
use Rattle.gather_lists.specs.Lists as gathers
use Rattle.scatter_lists.specs.Lists as scatters
use Rattle.job.specs.declared.Element.TheVariants as E
use Rattle.job_calls.specs.Jobs.{gather_by_job, scatter_by_job}
use Rattle.order.specs.Orders.{EitherOrder, GatherBeside}
use Rattle.order.proofs.Laws.{in-either-order, beside}
use Rattle.order.specs.Operands.{EitherOrderOn, BesideOn}
use Rattle.order.proofs.Operands.{in-either-order-on, beside-on}
use Rattle.operand_calls.specs.Calls.{Operand, ScattersOn}
use Rattle.operand_lists.specs.Lists as operands
use Rattle.operand_lists.proofs.Lent.{alone-done}
use Rattle.rules.specs.declared.Rule.{Rule}
use Rattle.rules.specs.declared.Rule.TheVariants as R
use Rattle.rules.specs.Rules.{rule_i32}
use Rattle.strided.specs.Words.{words}
use Rattle.strided.specs.Named.{rule_of, rules_i32, rule_refusal, named}

-- an exported scatter of i32, and an exported gather: by lists, a scatter with the number of its rule, or by a stored job, which means Add
pub data LinkedScatter : Type 0 where
  lists : ℕ → Scatter → View → View → View → List ℤ → List ℤ → LinkedScatter
  job : List ℕ → List ℤ → List ℤ → LinkedScatter

abbrev pub scatter_rule : LinkedScatter → Rule
scatter_rule (lists rule s x y z starts updates) = rule_of rule
scatter_rule (job bytes starts updates) = R.Add

abbrev pub scatter_call : LinkedScatter → ScatterCall ℤ
scatter_call (lists rule s x y z starts updates) = named rules_i32 rule (scatters.by_lists s x y z starts updates)
scatter_call (job bytes starts updates) = scatter_by_job E.I32 bytes starts updates

-- what it does
abbrev pub Linked : LinkedScatter → List ℤ → List ℤ → List ℕ → Type 0
Linked c before after handed = Scatters (pos 0) (rule_i32 (scatter_rule c)) words (scatter_call c) before after handed

pub data LinkedGather : Type 0 where
  lists : Gather → View → View → View → List ℤ → LinkedGather
  job : List ℕ → List ℤ → LinkedGather

abbrev pub gather_call : LinkedGather → GatherCall
gather_call (lists g x y z starts) = gathers.by_lists g x y z starts
gather_call (job bytes starts) = gather_by_job E.I32 bytes starts

-- TWO SCATTERS BY EXPORTED CALLS: North and then South on one grid, South and then North on one that held the same
pub linked-either-order : (north south : LinkedScatter) (grid m one m' other : List ℤ) (a b c d : List ℕ) → Linked north grid m a → Linked south m one b → Linked south grid m' c → Linked north m' other d
    → EitherOrder words (scatter_rule north) (scatter_rule south) (scatter_call north) (scatter_call south) grid grid one other a b c d
linked-either-order north south grid m one m' other a b c d = in-either-order words (scatter_rule north) (scatter_rule south) (scatter_call north) (scatter_call south) grid grid m m' one other a b c d

-- A GATHER BY EXPORTED CALLS beside a scatter by one
pub linked-beside : (g : LinkedGather) (south : LinkedScatter) (grid after into one other : List ℤ) (a b c : List ℕ)
    → Gathers (pos 0) words (gather_call g) grid into one a → Linked south grid after b → Gathers (pos 0) words (gather_call g) after into other c
    → GatherBeside words (scatter_rule south) (gather_call g) (scatter_call south) grid after into into one other a b c
linked-beside g south grid after into one other a b c = beside words (scatter_rule south) (gather_call g) (scatter_call south) grid after into into one other a b c

-- ---- the same on a grid into which an operand is copied once

-- an exported scatter of i32 by lists
pub record Listed : Type 0 where
  pub rule : ℕ
  pub scatter : Scatter
  pub index : View
  pub updates : View
  pub dest : View
  pub starts : List ℤ
  pub values : List ℤ

-- its updates alone, and with an operand that is compiled for o, lies as v has it and holds these elements
abbrev pub alone : Listed → LinkedScatter
alone c = LinkedScatter.lists c.rule c.scatter c.index c.updates c.dest c.starts c.values

abbrev pub with_operand : View → View → List ℤ → Listed → ScatterCall ℤ
with_operand o v elements c = named rules_i32 c.rule (operands.by_lists o c.scatter v c.index c.updates c.dest (length elements) c.starts c.values)

abbrev pub operand_of : View → List ℤ → Operand ℤ
operand_of v elements = record { view = v; elements = elements }

-- what it does with the operand
abbrev pub LinkedOn : View → View → List ℤ → Listed → List ℤ → List ℤ → List ℕ → Type 0
LinkedOn o v elements c before after handed = ScattersOn (pos 0) (rule_i32 (rule_of c.rule)) words (operand_of v elements) (with_operand o v elements c) before after handed

-- TWO SCATTERS BY EXPORTED CALLS ON A CHART: North with the operand and then South's updates, South with the operand and then North's updates
pub linked-either-order-on : (o v : View) (elements : List ℤ) (north south : Listed) (grid m one m' other : List ℤ) (a b c d : List ℕ)
    → LinkedOn o v elements north grid m a → Linked (alone south) m one b → LinkedOn o v elements south grid m' c → Linked (alone north) m' other d
    → EitherOrderOn words (rule_of north.rule) (rule_of south.rule) (operand_of v elements) (with_operand o v elements north).answer (with_operand o v elements south).answer (scatter_call (alone north)) (scatter_call (alone south)) grid grid one other a b c d
linked-either-order-on o v elements north south grid m one m' other a b c d =
    in-either-order-on words (operand_of v elements) (rule_of north.rule) (rule_of south.rule) (with_operand o v elements north).answer (with_operand o v elements south).answer (scatter_call (alone north)) (scatter_call (alone south)) grid grid m m' one other a b c d

-- a scatter that is accepted with an operand is accepted without it, so that both are accepted where the two calls with the operand are
pub alone-accepted : (o v : View) (elements : List ℤ) (c : Listed) (n : ℕ) → is_done ((with_operand o v elements c).answer n) ≡ true → is_done ((scatter_call (alone c)).answer n) ≡ true
alone-accepted o v elements c n e =
    let t = or-done (rule_refusal rules_i32 c.rule) _ e in
    ap (λ (b : Bool). is_done (cond b ((scatters.by_lists c.scatter c.index c.updates c.dest c.starts c.values).answer n) (rule_refusal rules_i32 c.rule))) t.0
    ∙ alone-done o c.scatter v (scatters.on_views c.scatter c.index c.updates c.dest) (length elements) (length c.starts) (length c.values) n t.1

-- A GATHER BY EXPORTED CALLS beside a scatter by one, after a scatter that copied an operand
pub linked-beside-on : (o v : View) (elements : List ℤ) (first : Listed) (g : LinkedGather) (south : LinkedScatter) (grid m after into one other : List ℤ) (f a b c : List ℕ)
    → LinkedOn o v elements first grid m f → Gathers (pos 0) words (gather_call g) m into one a → Linked south m after b → Gathers (pos 0) words (gather_call g) after into other c
    → BesideOn words (rule_of first.rule) (scatter_rule south) (operand_of v elements) (with_operand o v elements first).answer (scatter_call (alone first)) (gather_call g) (scatter_call south) grid after into into one other f a b c
linked-beside-on o v elements first g south grid m after into one other f a b c =
    beside-on words (operand_of v elements) (rule_of first.rule) (scatter_rule south) (with_operand o v elements first).answer (scatter_call (alone first)) (gather_call g) (scatter_call south) grid m after into into one other f a b c
