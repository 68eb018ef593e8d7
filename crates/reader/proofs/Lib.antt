pub mod DemandsLaws
pub mod ExtractionLaws
pub mod MarkedLaws
pub mod MissingAltLaws
pub mod PagesLaws
pub mod RustLaws
