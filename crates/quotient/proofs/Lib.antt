pub mod Compare
pub mod QuotientLaws
pub mod RoundError
