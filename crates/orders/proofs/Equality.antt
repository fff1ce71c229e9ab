-- Two priorities are equal exactly where they mean the same.
use Rattle.std.proofs.Common.{◌≡◌, ◌↔◌, IsTrue, rules}
use Rattle.orders.specs.declared.weight.Weight.{Weight}
use Rattle.orders.specs.declared.card.Card.{Card}
use Rattle.orders.specs.Weight.{weight_equals, weight_canonical}
use Rattle.orders.specs.Card.{card_equals, card_canonical}

pub weight_equals-canonical : (a b : Weight) → IsTrue (weight_equals a b) ↔ (weight_canonical a ≡ weight_canonical b)
weight_equals-canonical a b = search rules

pub card_equals-canonical : (a b : Card) → IsTrue (card_equals a b) ↔ (card_canonical a ≡ card_canonical b)
card_equals-canonical a b = search rules
