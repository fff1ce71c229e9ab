-- What a small stack means.
use Rattle.std.specs.Prelude.{ℕ, List, take}
use Rattle.changes.specs.declared.stack.Stack.{Stack}

-- its items, first pushed first: those before its length
abbrev pub stacked : {T : Type 0} {N : ℕ} → Stack T N → List T
stacked s = take s.len s.items
