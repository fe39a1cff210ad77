pub mod Counter
pub mod Values
pub mod CounterLaws
pub mod Sum
pub mod Sums
pub mod SumLaws
