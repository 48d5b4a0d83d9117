pub mod DrawReport
