pub mod ReferencePartial
pub mod ReferencePlane
