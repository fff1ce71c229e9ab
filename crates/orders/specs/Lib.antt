pub mod Order
pub mod Refusal
pub mod Bytes
pub mod Weight
pub mod Card
pub mod WrittenForms
pub mod Numbers
