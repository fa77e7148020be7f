-- Worked examples of the loop rules, each a program with the breach that it is refused by.
pub mod Notation
pub mod OneDirective
pub mod Stacks
pub mod Functions
pub mod Shapes
