-- What the treasurers are promised, as statements: Promises, over the words of Demand1, Demand2, Started and Carried; and what stands in the examples.
pub mod Types
pub mod Demand1
pub mod Demand2
pub mod Started
pub mod Carried
pub mod Promises
pub mod Demand3Examples
pub mod Examples
pub mod CarriedExamples
