-- A node that is reached lies as deep as its way is long.
use Rattle.std.proofs.Common.{◌≡◌, ℕ, ◌+◌, ◌≤◌, Bool, false, List, length, Some, Option, sym, ap, ◌∙◌, arith}
use Rattle.nodes.specs.declared.node.Node.{Node}
use Rattle.nodes.specs.Tree.{Tree, size, height, before_of}
use Rattle.nodes.specs.Holding.{Holds, part}
use Rattle.changes.specs.declared.path.Step.{Step}
use Rattle.changes.specs.Stacks.{stacked}
use Rattle.changes.specs.declared.found.Found.{Found}
use Rattle.changes.specs.Ways.{Way, Leads}
use Rattle.changes.proofs.Framing.{height_plug, steps_length}
use Rattle.balance.specs.Allowances.{part as share, whole as all}
use Rattle.upkeep.specs.Growth.{Within}
use Rattle.trees.specs.Depths.{Deep}

some_height : {E S : Type 0} {must : Bool} {empty : S} {whole : S → E → S → S} {nodes : List (Node E S)} {slot : ℕ} {t : Tree E} → Holds must empty whole nodes (Some slot) t → 1 ≤ height t
some_height (part node at left right sized summed) = omega arith

-- by a way that may be longer than a stack holds
pub deep_way : {E S : Type 0} {empty : S} {whole : S → E → S → S} {nodes : List (Node E S)} {root : Option ℕ} {m place slot skipped : ℕ} {steps : List Step} {t u : Tree E} → Holds false empty whole nodes root t → Within share all m t → Way empty whole nodes root (Some slot) steps skipped t u → skipped + size (before_of u) ≡ place → Deep t m place (length steps)
deep_way {u = u} h low w at =
    let long = sym (steps_length w.frames) ∙ ap length w.traced in
    let some = some_height (w.held false h) in
    let high = height_plug w.frames u in
    let same = ap height w.plugs in
    let before = w.ahead_long in
    record { frames = w.frames; part = u; on_way = w.plugs; there = omega arith; deep = long; allowed = λ d al. let x = low d al in omega arith }

pub deep_by : {E S : Type 0} {empty : S} {whole : S → E → S → S} {nodes : List (Node E S)} {root : Option ℕ} {m place : ℕ} {t : Tree E} {found : Found} → Holds false empty whole nodes root t → Within share all m t → Leads empty whole nodes root place t found → Deep t m place (length (stacked found.path))
deep_by h low l = deep_way h low l.way l.at
