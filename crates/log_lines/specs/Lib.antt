pub mod Grades
